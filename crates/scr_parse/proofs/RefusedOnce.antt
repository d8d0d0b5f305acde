-- A line is lexed or refused, and refused in one way where its words are.
use Rattle.std.proofs.Common.{◌≡◌, ◌≢◌, inl, inr, ℕ, ◌<◌, ◌≤◌, Bool, true, false, List, [], ◌∷◌, length, refl, sym, ap, subst, arith}
use Rattle.std.specs.Prelude.{nat_le}
use Rattle.std.specs.List.{list_all}
use Rattle.std.proofs.lemmas.Bool.Decides.{nat_tests}
use Rattle.scr_tokens.specs.declared.fault.LexFault.{LexFault}
use Rattle.scr_tokens.specs.declared.fault.LexFault.TheVariants as f
use Rattle.scr_tokens.specs.declared.word.Token.{Token}
use Rattle.scr_tokens.specs.declared.word.Word.{Word}
use Rattle.base.specs.Bytes.{is_allowed}
use Rattle.base.specs.Lines.{body}
use Rattle.scr_tokens.specs.Tokens.{Tokens, IsLexed, Refuses, is_small}
use Rattle.scr_tokens.proofs.Cutting.{lexed_once, lexed_apart, refused_once}
use Rattle.scr_parse.specs.declared.place.TextKind.{TextKind}
use Rattle.scr_parse.specs.declared.place.TextKind.TheVariants as k
use Rattle.scr_parse.specs.declared.place.LineFault.{LineFault}
use Rattle.scr_parse.specs.declared.place.LineFault.TheVariants as why
use Rattle.scr_parse.specs.Words.{words}
use Rattle.scr_parse.specs.Refusals.{WordsRefusedBy, TokensRefusedBy, LineRefusedBy, Fails}

-- ---- words

-- words that have no form pass no limit
pub words_kind : {no_form passes : Type 0} → (no_form → passes → ⊥) → (from : List Word) (i j : TextKind) → WordsRefusedBy no_form passes from i
    → WordsRefusedBy no_form passes from j → i ≡ j
words_kind apart from k.Byte j h g = absurd h
words_kind apart from k.End j h g = absurd h
words_kind apart from k.Syntax k.Byte h g = absurd g
words_kind apart from k.Syntax k.Syntax h g = refl
words_kind apart from k.Syntax k.Limit h (inl g) = let e = h.0 in cc
words_kind apart from k.Syntax k.Limit h (inr g) = absurd (apart h.1 g.1)
words_kind apart from k.Syntax k.End h g = absurd g
words_kind apart from k.Limit k.Byte h g = absurd g
words_kind apart from k.Limit k.Syntax (inl h) g = let e = g.0 in cc
words_kind apart from k.Limit k.Syntax (inr h) g = absurd (apart g.1 h.1)
words_kind apart from k.Limit k.Limit h g = refl
words_kind apart from k.Limit k.End h g = absurd g

-- ---- a line that is lexed is refused by its words alone

its_words : (refuse : List Word → TextKind → Type 0) (kind : TextKind) (tokens more : List Token) → tokens ≡ more → 0 < length more → refuse (words more) kind
    → (0 < length tokens) × refuse (words tokens) kind
its_words refuse kind tokens more e some h = (subst (λ (ts : List Token). 0 < length ts) (sym e) some, subst (λ ts. refuse (words ts) kind) (sym e) h)

pub by_its_words : {line : List ℕ} {tokens : List Token} (refuse : List Word → TextKind → Type 0) (kind : TextKind) → IsLexed line tokens → LineRefusedBy refuse line kind
    → (0 < length tokens) × refuse (words tokens) kind
by_its_words refuse k.Byte l h = absurd (lexed_apart f.Byte (λ e. cc) l h)
by_its_words refuse k.Syntax l (inl h) = absurd (lexed_apart f.Syntax (λ e. cc) l h)
by_its_words {tokens = tokens} refuse k.Syntax l (inr (more, m, some, h)) = its_words refuse k.Syntax tokens more (lexed_once l m) some h
by_its_words refuse k.Limit l (inl h) = absurd (lexed_apart f.Limit (λ e. cc) l h)
by_its_words {tokens = tokens} refuse k.Limit l (inr (more, m, some, h)) = its_words refuse k.Limit tokens more (lexed_once l m) some h
by_its_words refuse k.End l h = absurd h

-- ---- and where they are refused, it is

some_tokens : (tokens : List Token) → (tokens ≡ [] → ⊥) → 0 < length tokens
some_tokens [] h = absurd (h refl)
some_tokens (token ∷ tokens) h = omega arith

words_refuse : (no_form passes : List Word → Type 0) (line : List ℕ) (tokens : List Token) (kind : TextKind) → IsLexed line tokens → 0 < length tokens
    → WordsRefusedBy (no_form (words tokens)) (passes (words tokens)) (words tokens) kind → LineRefusedBy (λ from kind. WordsRefusedBy (no_form from) (passes from) from kind) line kind
words_refuse no_form passes line tokens k.Byte l some h = absurd h
words_refuse no_form passes line tokens k.Syntax l some h = inr (tokens, l, some, h)
words_refuse no_form passes line tokens k.Limit l some h = inr (tokens, l, some, h)
words_refuse no_form passes line tokens k.End l some h = absurd h

pub words_fail : (no_form passes : List Word → Type 0) (line : List ℕ) (tokens more : List Token) (fault : LineFault) → IsLexed line tokens → (tokens ≡ [] → ⊥) → more ≡ tokens
    → Fails (λ kind. WordsRefusedBy (no_form (words more)) (passes (words more)) (words more) kind) fault
    → Fails (λ kind. LineRefusedBy (λ from kind. WordsRefusedBy (no_form from) (passes from) from kind) line kind) fault
words_fail no_form passes line tokens more why.NoMemory l some e h = tt
words_fail no_form passes line tokens more (why.Refused kind) l some e h =
    words_refuse no_form passes line tokens kind l (some_tokens tokens some)
    (subst (λ tokens. WordsRefusedBy (no_form (words tokens)) (passes (words tokens)) (words tokens) kind) e h)

-- ---- a line is refused in one way

-- the kind of a fault of tokens
kind_of : LexFault → TextKind
kind_of f.Byte = k.Byte
kind_of f.Syntax = k.Syntax
kind_of f.Limit = k.Limit
kind_of f.NoMemory = k.Limit

-- a line is refused by its tokens or by its words
data Cause (line : List ℕ) (kind : TextKind) (by_its : Type 0) : Type 0 where
  by_tokens : {fault : LexFault} → fault ≢ f.NoMemory → Refuses line fault → kind ≡ kind_of fault → Cause line kind by_its
  by_words : by_its → Cause line kind by_its

cause : (refuse : List Word → TextKind → Type 0) (line : List ℕ) (kind : TextKind) → LineRefusedBy refuse line kind → Cause line kind (TokensRefusedBy refuse line kind)
unfolding kind_of
cause refuse line k.Byte h = by_tokens {fault = f.Byte} (λ e. cc) h refl
cause refuse line k.Syntax (inl h) = by_tokens {fault = f.Syntax} (λ e. cc) h refl
cause refuse line k.Syntax (inr h) = by_words h
cause refuse line k.Limit (inl h) = by_tokens {fault = f.Limit} (λ e. cc) h refl
cause refuse line k.Limit (inr h) = by_words h
cause refuse line k.End h = absurd h

by_cause : (refuse : List Word → TextKind → Type 0) → ((from : List Word) (i j : TextKind) → refuse from i → refuse from j → i ≡ j) → (line : List ℕ) (i j : TextKind)
    → Cause line i (TokensRefusedBy refuse line i) → Cause line j (TokensRefusedBy refuse line j) → i ≡ j
by_cause refuse one line i j (by_tokens n h e) (by_tokens m g d) = let same = ap kind_of (refused_once line _ _ n m h g) in cc
by_cause refuse one line i j (by_tokens {fault = fault} n h e) (by_words (tokens, l, _, _)) = absurd (lexed_apart fault n l h)
by_cause refuse one line i j (by_words (tokens, l, _, _)) (by_tokens {fault = fault} m g d) = absurd (lexed_apart fault m l g)
by_cause refuse one line i j (by_words (tokens, l, _, h)) (by_words (more, m, some, g)) = one (words tokens) i j h (its_words refuse j tokens more (lexed_once l m) some g).1

pub line_kind : (refuse : List Word → TextKind → Type 0) → ((from : List Word) (i j : TextKind) → refuse from i → refuse from j → i ≡ j) → (line : List ℕ) (i j : TextKind)
    → LineRefusedBy refuse line i → LineRefusedBy refuse line j → i ≡ j
line_kind refuse one line i j h g = by_cause refuse one line i j (cause refuse line i h) (cause refuse line j g)

-- ---- that a line is neither lexed nor refused is absurd

by_size : (refuse : List Word → TextKind → Type 0) (line : List ℕ) → length line ≤ 4096 → list_all is_allowed (body line) ≡ true → (tokens : List Token) → Tokens 0 (body line) tokens
    → (b : Bool) → list_all is_small tokens ≡ b → ((tokens : List Token) → IsLexed line tokens → ⊥) → ((kind : TextKind) → LineRefusedBy refuse line kind → ⊥) → ⊥
by_size refuse line short allowed tokens cut true e unlexed unrefused = unlexed tokens (record { short = short; allowed = allowed; cut = cut; small = e })
by_size refuse line short allowed tokens cut false e unlexed unrefused = unrefused k.Limit (inl (inr (allowed, tokens, cut, e)))

by_bytes : (refuse : List Word → TextKind → Type 0) (line : List ℕ) → length line ≤ 4096 → (b : Bool) → list_all is_allowed (body line) ≡ b
    → ((tokens : List Token) → IsLexed line tokens → ⊥) → ((kind : TextKind) → LineRefusedBy refuse line kind → ⊥) → ⊥
by_bytes refuse line short true e unlexed unrefused =
    unrefused k.Syntax (inl (short, e, λ tokens cut. by_size refuse line short e tokens cut (list_all is_small tokens) refl unlexed unrefused))
by_bytes refuse line short false e unlexed unrefused = unrefused k.Byte (short, e)

by_length : (refuse : List Word → TextKind → Type 0) (line : List ℕ) (b : Bool) → nat_le (length line) 4096 ≡ b
    → ((tokens : List Token) → IsLexed line tokens → ⊥) → ((kind : TextKind) → LineRefusedBy refuse line kind → ⊥) → ⊥
by_length refuse line true e unlexed unrefused = by_bytes refuse line (grind (arith, nat_tests)) (list_all is_allowed (body line)) refl unlexed unrefused
by_length refuse line false e unlexed unrefused = unrefused k.Limit (inl (inl (grind (arith, nat_tests))))

pub lexed_or_refused : (refuse : List Word → TextKind → Type 0) (line : List ℕ) → ((tokens : List Token) → IsLexed line tokens → ⊥)
    → ((kind : TextKind) → LineRefusedBy refuse line kind → ⊥) → ⊥
lexed_or_refused refuse line unlexed unrefused = by_length refuse line (nat_le (length line) 4096) refl unlexed unrefused
