-- A text has one outcome.
use Rattle.std.proofs.Common.{◌≡◌, ◌⊎◌, inl, inr, ℕ, false, List, [], ◌++◌, refl, sym, ap, ap₂, subst, ◌∙◌, arith}
use Rattle.std.specs.Prelude.{Option, Some}
use Rattle.scr_tokens.specs.declared.word.Token.{Token}
use Rattle.scr_tokens.specs.declared.word.Word.{Word}
use Rattle.scr_tokens.proofs.Cutting.{lexed_once}
use Rattle.scr_parse.specs.declared.draft.Statement.{Statement}
use Rattle.scr_parse.specs.declared.draft.Numbered.{Numbered}
use Rattle.scr_parse.specs.declared.place.Place.{Place}
use Rattle.scr_parse.specs.declared.place.Place.TheVariants.{After}
use Rattle.scr_parse.specs.declared.place.Position.{Position}
use Rattle.scr_parse.specs.declared.place.TextKind.{TextKind}
use Rattle.scr_parse.specs.declared.place.TextKind.TheVariants as k
use Rattle.scr_parse.specs.declared.place.TextFault.TheVariants as fault
use Rattle.scr_parse.specs.Words.{words}
use Rattle.scr_parse.specs.Forms.{Form, NoForm}
use Rattle.scr_parse.specs.Limits.{is_statement_within, counted, is_count_within}
use Rattle.scr_parse.proofs.Existence.{some_outcome}
use Rattle.scr_parse.specs.Text.{Says, LineReads, blank, says, PassesLimit, WordsRefuse, LineRefuses, numbered, Reads, no_line, line_more, Refused, here, later, unfinished, TextReads, TextRefuses, OneOutcome}
use Rattle.scr_parse.proofs.FormsOnce.{form_once}
use Rattle.scr_parse.proofs.RefusedOnce.{words_kind, by_its_words, line_kind}

-- ---- the words of a line

position_same : {a b : Position} → a.place ≡ b.place → a.counts ≡ b.counts → a ≡ b
position_same e g = ap₂ (λ place counts. let at : Position = record { place = place; counts = counts } in at) e g

-- equal words say one thing
says_once : {position next other : Position} {from : List Word} {a b : Statement} → Says position from a next → Says position from b other → (a ≡ b) × (next ≡ other)
says_once {position} s t =
    let same = form_once s.form t.form in
    (same.0, position_same same.1 (s.counts ∙ ap (λ a. counted position.counts a) same.0 ∙ sym t.counts))

-- what the words say is within the limits
within_limits : {position next : Position} {from : List Word} {a b : Statement} → Says position from a next → a ≡ b
    → (is_statement_within b ≡ false) ⊎ (is_count_within (counted position.counts b) ≡ false) → ⊥
within_limits s e (inl h) = let g = s.within in let i = ap is_statement_within e in cc
within_limits {position} s e (inr h) =
    let g = s.count_within in
    let i = ap is_count_within (s.counts ∙ ap (λ a. counted position.counts a) e) in cc

-- words that say something are not refused
words_apart : {position next : Position} {from : List Word} {a : Statement} → Says position from a next → (kind : TextKind) → WordsRefuse position from kind → ⊥
words_apart s k.Byte h = h
words_apart s k.Syntax h = h.1 _ _ s.form
words_apart s k.Limit (inl h) = let e = s.line_within in cc
words_apart s k.Limit (inr (_, (_, _, d, h))) = within_limits s (form_once s.form d).0 h
words_apart s k.End h = h

-- words that have no form pass no limit
no_limit : (position : Position) (from : List Word) → NoForm position.place from → PassesLimit position from → ⊥
no_limit position from h (statement, next, form, _) = h statement next form

-- ---- a line

-- a line without words says nothing
no_form : {place next : Place} {statement : Statement} → Form place [] statement next → ⊥
no_form d = elim d [ ]

no_words : {position next : Position} {statement : Statement} → Says position [] statement next → ⊥
no_words s = no_form s.form

-- the words of a line's tokens
says_of : {position next : Position} {tokens more : List Token} {statement : Statement} → tokens ≡ more → Says position (words more) statement next
    → Says position (words tokens) statement next
says_of {position} {next} {statement = statement} e s = subst (λ tokens. Says position (words tokens) statement next) (sym e) s

-- a line says one thing
line_once : {position next other : Position} {line : List ℕ} {a b : Option Statement} → LineReads position line a next → LineReads position line b other
    → (a ≡ b) × (next ≡ other)
line_once (blank l) (blank m) = (refl, refl)
line_once (blank l) (says m s) = absurd (no_words (says_of (lexed_once l m) s))
line_once (says l s) (blank m) = absurd (no_words (says_of (lexed_once m l) s))
line_once (says l s) (says m t) = let same = says_once s (says_of (lexed_once l m) t) in (ap (λ a. Some a) same.0, same.1)

-- a line that is read is not refused
line_apart : {position next : Position} {line : List ℕ} {a : Option Statement} → LineReads position line a next → (kind : TextKind) → LineRefuses position line kind → ⊥
line_apart {position} (blank l) kind h = let none = (by_its_words (WordsRefuse position) kind l h).0 in absurd (omega (arith, none))
line_apart {position} (says l s) kind h = words_apart s kind (by_its_words (WordsRefuse position) kind l h).1

-- a line is refused in one way
line_refused_once : (position : Position) (line : List ℕ) (i j : TextKind) → LineRefuses position line i → LineRefuses position line j → i ≡ j
line_refused_once position line i j h g = line_kind (WordsRefuse position) (λ from i j. words_kind (no_limit position from) from i j) line i j h g

-- ---- the lines

refused_in : {position other : Position} {n m : ℕ} {ls : List (List ℕ)} {kind : TextKind} → position ≡ other → Refused other n ls m kind → Refused position n ls m kind
refused_in {n = n} {m} {ls} {kind} e d = subst (λ position. Refused position n ls m kind) (sym e) d

reads_in : {position other last : Position} {n : ℕ} {ls : List (List ℕ)} {draft : List Numbered} → position ≡ other → Reads other n ls draft last → Reads position n ls draft last
reads_in {last = last} {n} {ls} {draft} e d = subst (λ position. Reads position n ls draft last) (sym e) d

reads_once : {position last other : Position} {n : ℕ} {ls : List (List ℕ)} {a b : List Numbered} → Reads position n ls a last → Reads position n ls b other → a ≡ b
reads_once no_line no_line = refl
reads_once (line_more {n = n} l r) (line_more m q) =
    let same = line_once l m in ap₂ (λ statement draft. numbered n statement ++ draft) same.0 (reads_once r (reads_in same.1 q))

apart : {position last : Position} {n m : ℕ} {ls : List (List ℕ)} {draft : List Numbered} {kind : TextKind} → Reads position n ls draft last → last.place ≡ After
    → Refused position n ls m kind → ⊥
apart no_line e (unfinished h) = h e
apart (line_more l r) e (here h) = line_apart l _ h
apart (line_more l r) e (later m d) = let same = line_once l m in apart r e (refused_in same.1 d)

refused_same : {position : Position} {n a b : ℕ} {ls : List (List ℕ)} {i j : TextKind} → Refused position n ls a i → Refused position n ls b j → (a ≡ b) × (i ≡ j)
refused_same {position} (here {line = line} h) (here g) = (refl, line_refused_once position line _ _ h g)
refused_same (here h) (later m d) = absurd (line_apart m _ h)
refused_same (later m d) (here g) = absurd (line_apart m _ g)
refused_same (later m d) (later l e) = let same = line_once m l in refused_same d (refused_in same.1 e)
refused_same (unfinished h) (unfinished g) = (refl, refl)

-- ---- a text

text_apart : (text : List ℕ) (draft : List Numbered) (line : ℕ) (kind : TextKind) → TextReads text draft → TextRefuses text (fault.Refused line kind) → ⊥
text_apart text draft line kind r (inl h) = let e = r.size in absurd (omega (arith, h.0))
text_apart text draft line kind r (inr h) = apart r.lines.lines r.lines.finished h.1

one_fault : (text : List ℕ) (m n : ℕ) (i j : TextKind) → TextRefuses text (fault.Refused m i) → TextRefuses text (fault.Refused n j) → (m ≡ n) × (i ≡ j)
one_fault text m n i j (inl h) (inl g) = (h.1 ∙ sym g.1, h.2 ∙ sym g.2)
one_fault text m n i j (inl h) (inr g) = absurd (omega (arith, h.0, g.0))
one_fault text m n i j (inr h) (inl g) = absurd (omega (arith, h.0, g.0))
one_fault text m n i j (inr h) (inr g) = refused_same h.1 g.1

pub one_outcome : OneOutcome
one_outcome = record {
  once = λ text a b r q. reads_once r.lines.lines q.lines.lines;
  apart = λ text draft line kind r h. text_apart text draft line kind r h;
  one_fault = λ text m n i j h g. one_fault text m n i j h g;
  some = some_outcome;
}
