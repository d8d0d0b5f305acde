-- A text of assertions has one outcome.
use Rattle.std.proofs.Common.{◌≡◌, ◌⊎◌, inl, inr, ℕ, ◌+◌, ◌<◌, ◌≤◌, Bool, true, false, List, [], ◌∷◌, ◌++◌, length, refl, sym, ap, ap₂, subst, ◌∙◌, arith}
use Rattle.std.specs.Prelude.{nat_lt, nat_le, Option, Some, None}
use Rattle.std.specs.Option.{option_to_list}
use Rattle.std.proofs.lemmas.Bool.Decides.{nat_tests}
use Rattle.scr_tokens.specs.declared.word.Token.{Token}
use Rattle.scr_tokens.specs.declared.word.Word.{Word}
use Rattle.base.specs.Lines.{lines}
use Rattle.scr_tokens.specs.Tokens.{IsLexed}
use Rattle.scr_tokens.proofs.Cutting.{lexed_once}
use Rattle.scr_parse.specs.declared.draft.DraftCond.{DraftCond}
use Rattle.scr_parse.specs.declared.draft.DraftAssertion.{DraftAssertion}
use Rattle.scr_parse.specs.declared.place.TextKind.{TextKind}
use Rattle.scr_parse.specs.declared.place.TextKind.TheVariants as k
use Rattle.scr_parse.specs.declared.place.TextFault.TheVariants as fault
use Rattle.scr_parse.specs.Words.{words}
use Rattle.scr_parse.specs.Conds.{any_of}
use Rattle.scr_parse.specs.Limits.{is_line_within, is_cond_within}
use Rattle.scr_parse.specs.Assertions.{Form, assert, Says, LineAsserts, blank, says, NoForm, PassesLimit, WordsRefuse, LineRefuses, Reads, no_line, line_more, Refused, here, later, TextAsserts, AssertionsRefuse, OneOutcomeOfAssertions}
use Rattle.scr_parse.proofs.Once.{cond_once}
use Rattle.scr_parse.proofs.RefusedOnce.{words_kind, by_its_words, line_kind, lexed_or_refused}

-- ---- the words of a line

form_once : {from : List Word} {name label : List ℕ} {c d : DraftCond} → Form from name c → Form from label d → (name ≡ label) × (c ≡ d)
form_once (assert l) (assert m) = (refl, ap any_of (cond_once l m).0)

-- words that say an assertion pass no limit
within_limits : {before : ℕ} {from : List Word} {name : List ℕ} {c d : DraftCond} → Says before from name c → c ≡ d → (is_cond_within d ≡ false) ⊎ (64 ≤ before) → ⊥
within_limits s e (inl h) = let g = s.within in let i = ap is_cond_within e in cc
within_limits s e (inr h) = absurd (omega (arith, s.few, h))

-- and are not refused
words_apart : {before : ℕ} {from : List Word} {name : List ℕ} {c : DraftCond} → Says before from name c → (kind : TextKind) → WordsRefuse before from kind → ⊥
words_apart s k.Byte h = h
words_apart s k.Syntax h = h.1 _ _ s.form
words_apart s k.Limit (inl h) = let e = s.line_within in cc
words_apart s k.Limit (inr (_, (_, _, d, h))) = within_limits s (form_once s.form d).1 h
words_apart s k.End h = h

no_limit : (before : ℕ) (from : List Word) → NoForm from → PassesLimit before from → ⊥
no_limit before from h (name, cond, form, _) = h name cond form

-- ---- a line

no_form : {name : List ℕ} {c : DraftCond} → Form [] name c → ⊥
no_form d = elim d [ ]

-- the words of a line's tokens
form_of : {tokens more : List Token} {name : List ℕ} {c : DraftCond} → tokens ≡ more → Form (words more) name c → Form (words tokens) name c
form_of {name = name} {c} e d = subst (λ tokens. Form (words tokens) name c) (sym e) d

-- a line has one assertion, or none
line_once : {before n : ℕ} {line : List ℕ} {a b : Option DraftAssertion} → LineAsserts before n line a → LineAsserts before n line b → a ≡ b
line_once (blank l) (blank m) = refl
line_once (blank l) (says m s) = absurd (no_form (form_of (lexed_once l m) s.form))
line_once (says l s) (blank m) = absurd (no_form (form_of (lexed_once m l) s.form))
line_once {n = n} (says l s) (says m t) =
    let same = form_once s.form (form_of (lexed_once l m) t.form) in
    ap₂ (λ name cond. let draft : DraftAssertion = record { line = n; name = name; cond = cond } in Some draft) same.0 same.1

-- a line that is read is not refused
line_apart : {before n : ℕ} {line : List ℕ} {a : Option DraftAssertion} → LineAsserts before n line a → (kind : TextKind) → LineRefuses before line kind → ⊥
line_apart {before} (blank l) kind h = let none = (by_its_words (WordsRefuse before) kind l h).0 in absurd (omega (arith, none))
line_apart {before} (says l s) kind h = words_apart s kind (by_its_words (WordsRefuse before) kind l h).1

-- a line is refused in one way
line_refused_once : (before : ℕ) (line : List ℕ) (i j : TextKind) → LineRefuses before line i → LineRefuses before line j → i ≡ j
line_refused_once before line i j h g = line_kind (WordsRefuse before) (λ from i j. words_kind (no_limit before from) from i j) line i j h g

-- ---- that a line is neither read nor refused is absurd

abbrev NotRead : ℕ → ℕ → List ℕ → Type 0
NotRead before n line = (said : Option DraftAssertion) → LineAsserts before n line said → ⊥

abbrev NotRefused : ℕ → List ℕ → Type 0
NotRefused before line = (kind : TextKind) → LineRefuses before line kind → ⊥

by_count : (before n : ℕ) (line : List ℕ) (tokens : List Token) → IsLexed line tokens → 0 < length tokens → is_line_within (words tokens) ≡ true
    → (name : List ℕ) (cond : DraftCond) → Form (words tokens) name cond → is_cond_within cond ≡ true
    → (b : Bool) → nat_lt before 64 ≡ b → NotRead before n line → NotRefused before line → ⊥
by_count before n line tokens lexed some line_within name cond form within true e unread unrefused =
    unread (Some (record { line = n; name = name; cond = cond })) (says lexed (record { line_within = line_within; form = form; within = within; few = grind (arith, nat_tests) }))
by_count before n line tokens lexed some line_within name cond form within false e unread unrefused =
    unrefused k.Limit (inr (tokens, lexed, some, inr (line_within, (name, cond, form, inr (grind (arith, nat_tests))))))

by_cond : (before n : ℕ) (line : List ℕ) (tokens : List Token) → IsLexed line tokens → 0 < length tokens → is_line_within (words tokens) ≡ true
    → (name : List ℕ) (cond : DraftCond) → Form (words tokens) name cond
    → (b : Bool) → is_cond_within cond ≡ b → NotRead before n line → NotRefused before line → ⊥
by_cond before n line tokens lexed some line_within name cond form true e unread unrefused =
    by_count before n line tokens lexed some line_within name cond form e (nat_lt before 64) refl unread unrefused
by_cond before n line tokens lexed some line_within name cond form false e unread unrefused =
    unrefused k.Limit (inr (tokens, lexed, some, inr (line_within, (name, cond, form, inl e))))

by_words : (before n : ℕ) (line : List ℕ) (tokens : List Token) → IsLexed line tokens → 0 < length tokens
    → (b : Bool) → is_line_within (words tokens) ≡ b → NotRead before n line → NotRefused before line → ⊥
by_words before n line tokens lexed some true e unread unrefused =
    unrefused k.Syntax (inr (
      tokens,
      lexed,
      some,
      (e, λ name cond form. by_cond before n line tokens lexed some e name cond form (is_cond_within cond) refl unread unrefused),
    ))
by_words before n line tokens lexed some false e unread unrefused = unrefused k.Limit (inr (tokens, lexed, some, inl e))

by_tokens : (before n : ℕ) (line : List ℕ) (tokens : List Token) → IsLexed line tokens → NotRead before n line → NotRefused before line → ⊥
by_tokens before n line [] lexed unread unrefused = unread None (blank lexed)
by_tokens before n line (token ∷ tokens) lexed unread unrefused =
    by_words before n line (token ∷ tokens) lexed (omega arith) (is_line_within (words (token ∷ tokens))) refl unread unrefused

some_line : (before n : ℕ) (line : List ℕ) → NotRead before n line → NotRefused before line → ⊥
some_line before n line unread unrefused =
    lexed_or_refused (WordsRefuse before) line (λ tokens lexed. by_tokens before n line tokens lexed unread unrefused) unrefused

-- ---- the lines

abbrev behind : ℕ → Option DraftAssertion → ℕ
behind before said = before + length (option_to_list said)

reads_in : (before : ℕ) {n : ℕ} {a b : Option DraftAssertion} {ls : List (List ℕ)} {drafts : List DraftAssertion} → a ≡ b → Reads (behind before b) n ls drafts → Reads (behind before a) n ls drafts
reads_in before {n} {ls = ls} {drafts} e d = subst (λ said. Reads (behind before said) n ls drafts) (sym e) d

refused_in : (before : ℕ) {n m : ℕ} {a b : Option DraftAssertion} {ls : List (List ℕ)} {kind : TextKind} → a ≡ b → Refused (behind before b) n ls m kind → Refused (behind before a) n ls m kind
refused_in before {n} {m} {ls = ls} {kind} e d = subst (λ said. Refused (behind before said) n ls m kind) (sym e) d

reads_once : {before n : ℕ} {ls : List (List ℕ)} {a b : List DraftAssertion} → Reads before n ls a → Reads before n ls b → a ≡ b
reads_once no_line no_line = refl
reads_once (line_more l r) (line_more m q) = let same = line_once l m in ap₂ (λ said drafts. option_to_list said ++ drafts) same (reads_once r (reads_in _ same q))

apart : {before n m : ℕ} {ls : List (List ℕ)} {drafts : List DraftAssertion} {kind : TextKind} → Reads before n ls drafts → Refused before n ls m kind → ⊥
apart no_line d = elim d [ ]
apart (line_more l r) (here h) = line_apart l _ h
apart (line_more l r) (later m d) = apart r (refused_in _ (line_once l m) d)

refused_same : {before n a b : ℕ} {ls : List (List ℕ)} {i j : TextKind} → Refused before n ls a i → Refused before n ls b j → (a ≡ b) × (i ≡ j)
refused_same {before} (here {line = line} h) (here g) = (refl, line_refused_once before line _ _ h g)
refused_same (here h) (later m d) = absurd (line_apart m _ h)
refused_same (later m d) (here g) = absurd (line_apart m _ g)
refused_same (later m d) (later l e) = refused_same d (refused_in _ (line_once m l) e)

some_lines : (before n : ℕ) (ls : List (List ℕ)) → ((drafts : List DraftAssertion) → Reads before n ls drafts → ⊥) → ((m : ℕ) (kind : TextKind) → Refused before n ls m kind → ⊥) → ⊥
some_lines before n [] unread unrefused = unread [] no_line
some_lines before n (line ∷ more) unread unrefused =
    some_line before n line
    (λ said read. some_lines (behind before said) (n + 1) more
    (λ drafts reads. unread (option_to_list said ++ drafts) (line_more read reads))
    (λ m kind refused. unrefused m kind (later read refused)))
    (λ kind refused. unrefused n kind (here refused))

no_end : {before n m : ℕ} {ls : List (List ℕ)} {kind : TextKind} → Refused before n ls m kind → kind ≡ k.End → ⊥
no_end {before} (here {line = line} h) e = let g : LineRefuses before line k.End = subst (LineRefuses before line) e h in g
no_end (later l d) e = no_end d e

-- ---- a text

text_apart : (text : List ℕ) (drafts : List DraftAssertion) (line : ℕ) (kind : TextKind) → TextAsserts text drafts → AssertionsRefuse text (fault.Refused line kind) → ⊥
text_apart text drafts line kind r (inl h) = let e = r.size in absurd (omega (arith, h.0))
text_apart text drafts line kind r (inr h) = apart r.lines h.1

one_fault : (text : List ℕ) (m n : ℕ) (i j : TextKind) → AssertionsRefuse text (fault.Refused m i) → AssertionsRefuse text (fault.Refused n j) → (m ≡ n) × (i ≡ j)
one_fault text m n i j (inl h) (inl g) = (h.1 ∙ sym g.1, h.2 ∙ sym g.2)
one_fault text m n i j (inl h) (inr g) = absurd (omega (arith, h.0, g.0))
one_fault text m n i j (inr h) (inl g) = absurd (omega (arith, h.0, g.0))
one_fault text m n i j (inr h) (inr g) = refused_same h.1 g.1

by_text : (text : List ℕ) (b : Bool) → nat_le (length text) 1048576 ≡ b → ((drafts : List DraftAssertion) → TextAsserts text drafts → ⊥)
    → ((line : ℕ) (kind : TextKind) → AssertionsRefuse text (fault.Refused line kind) → ⊥) → ⊥
by_text text true e unread unrefused = some_lines 0 1 (lines text)
    (λ drafts reads. unread drafts (record { size = grind (arith, nat_tests); lines = reads }))
    (λ m kind refused. unrefused m kind (inr (grind (arith, nat_tests), refused)))
by_text text false e unread unrefused = unrefused 0 k.Limit (inl (grind (arith, nat_tests), refl, refl))

text_no_end : (text : List ℕ) (line : ℕ) → AssertionsRefuse text (fault.Refused line k.End) → ⊥
text_no_end text line (inl h) = let e = h.2 in cc
text_no_end text line (inr h) = no_end h.1 refl

pub one_outcome : OneOutcomeOfAssertions
one_outcome = record {
  once = λ text a b r q. reads_once r.lines q.lines;
  apart = text_apart;
  one_fault = one_fault;
  some = λ text. by_text text (nat_le (length text) 1048576) refl;
  no_end = text_no_end;
}
