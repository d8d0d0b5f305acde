-- The words of a line that is lexed: a name is one of the language, and a number is at most 1,000,000.
use Rattle.std.proofs.Common.{◌≡◌, ℕ, suc, ◌-◌, pos, Bool, true, false, ◌&&◌, ◌||◌, ◌==◌, List, [], ◌∷◌, length, take, refl, sym, ap, subst, ◌∙◌, ◌⊎◌, inl, inr, eqb-true, arith}
use Rattle.std.specs.Prelude.{if◌then◌else◌, int_le, nat_le, slice_index, is_none, Option, Some, None, unwrap_or}
use Rattle.std.specs.Char.{is_ascii_alphabetic}
use Rattle.std.specs.List.{list_all}
use Rattle.std.proofs.lemmas.Bool.{and_parts}
use Rattle.scr_tokens.specs.declared.word.Word.{Word}
use Rattle.scr_tokens.specs.declared.word.Word.TheVariants as w
use Rattle.scr_tokens.specs.declared.word.Keyword.{Keyword}
use Rattle.scr_tokens.specs.declared.word.Sign.{Sign}
use Rattle.scr_tokens.specs.declared.word.Token.{Token}
use Rattle.base.specs.Bytes.{is_word_byte}
use Rattle.scr_tokens.specs.Piece.{is_nothing, is_name_rest, is_piece}
use Rattle.scr_tokens.specs.Tokens.{Tokens, no_more, blank, piece, word_is_small, is_small, IsLexed}
use Rattle.scr_tokens.specs.Words.{keyword_of, named, primed, sign_word, word_of}
use Rattle.scr_spec.proofs.Passing.{and_true}
use Rattle.scr_spec.specs.NameSpace.{is_spelt, is_name}

-- a name of the language, or a number within its limit
abbrev pub is_word_sound : Word → Bool
is_word_sound (w.Name name) = is_name name
is_word_sound (w.Primed name) = is_name name
is_word_sound (w.Number n) = int_le n (pos 1000000)
is_word_sound (w.Reserved keyword) = true
is_word_sound (w.Sign sign) = true

-- ---- the last byte of a piece, and what stands before it

abbrev last_of : ℕ → List ℕ → ℕ
last_of b [] = b
last_of b (d ∷ bytes) = last_of d bytes

abbrev front_of : ℕ → List ℕ → List ℕ
front_of b [] = []
front_of b (d ∷ bytes) = b ∷ front_of d bytes

less_one : (n : ℕ) → suc n - 1 ≡ n
less_one n = omega arith

last_at : (b : ℕ) (bytes : List ℕ) → slice_index (b ∷ bytes) (length bytes) ≡ last_of b bytes
last_at b [] = refl
last_at b (d ∷ bytes) = last_at d bytes

last_read : (b : ℕ) (bytes : List ℕ) → slice_index (b ∷ bytes) (length (b ∷ bytes) - 1) ≡ last_of b bytes
last_read b bytes = ap (slice_index (b ∷ bytes)) (less_one (length bytes)) ∙ last_at b bytes

front_at : (b : ℕ) (bytes : List ℕ) → take (length bytes) (b ∷ bytes) ≡ front_of b bytes
front_at b [] = refl
front_at b (d ∷ bytes) = ap (λ front. b ∷ front) (front_at d bytes)

front_read : (b : ℕ) (bytes : List ℕ) → take (length (b ∷ bytes) - 1) (b ∷ bytes) ≡ front_of b bytes
front_read b bytes = ap (λ n. take n (b ∷ bytes)) (less_one (length bytes)) ∙ front_at b bytes

-- ---- names

or_cases : (x y : Bool) → (x || y) ≡ true → (x ≡ true) ⊎ (y ≡ true)
or_cases true y h = inl refl
or_cases false y h = inr h

abbrev Goes : ℕ → List ℕ → Type 0
Goes d bytes = ((is_word_byte d && is_name_rest bytes) ≡ true) ⊎ ((d == 39 && is_nothing bytes) ≡ true)

plain_step : (d : ℕ) (bytes : List ℕ) → (is_name_rest bytes ≡ true → list_all is_word_byte bytes ≡ true) → Goes d bytes → (last_of d bytes == 39) ≡ false
    → list_all is_word_byte (d ∷ bytes) ≡ true
plain_step d bytes more (inl k) e =
    let parts = and_parts (is_word_byte d) (is_name_rest bytes) k in and_true (is_word_byte d) (list_all is_word_byte bytes) parts.0 (more parts.1)
plain_step d [] more (inr k) e = let prime = (and_parts (d == 39) true k).0 in absurd (cc)
plain_step d (x ∷ bytes) more (inr k) e = let none = (and_parts (d == 39) false k).1 in absurd (cc)

-- behind its first letter a name has letters, digits and `_`, where its last byte is no prime
plain_name : (b : ℕ) (bytes : List ℕ) → is_name_rest bytes ≡ true → (last_of b bytes == 39) ≡ false → list_all is_word_byte bytes ≡ true
plain_name b [] h e = refl
plain_name b (d ∷ bytes) h e = plain_step d bytes (λ g. plain_name d bytes g e) (or_cases (is_word_byte d && is_name_rest bytes) (d == 39 && is_nothing bytes) h) e

primed_step : (d x : ℕ) (bytes : List ℕ) → (is_name_rest (x ∷ bytes) ≡ true → list_all is_word_byte (front_of x bytes) ≡ true) → Goes d (x ∷ bytes)
    → list_all is_word_byte (d ∷ front_of x bytes) ≡ true
primed_step d x bytes more (inl k) =
    let parts = and_parts (is_word_byte d) (is_name_rest (x ∷ bytes)) k in and_true (is_word_byte d) (list_all is_word_byte (front_of x bytes)) parts.0 (more parts.1)
primed_step d x bytes more (inr k) = let none = (and_parts (d == 39) false k).1 in absurd (cc)

-- and so it has before a prime
primed_name : (d : ℕ) (bytes : List ℕ) → is_name_rest (d ∷ bytes) ≡ true → list_all is_word_byte (front_of d bytes) ≡ true
primed_name d [] h = refl
primed_name d (x ∷ bytes) h =
    primed_step d x bytes (primed_name x bytes) (or_cases (is_word_byte d && is_name_rest (x ∷ bytes)) (d == 39 && is_nothing (x ∷ bytes)) h)

-- a letter is no prime
no_prime : (b : ℕ) → is_ascii_alphabetic b ≡ true → (b == 39) ≡ true → ⊥
no_prime b h e = let no : is_ascii_alphabetic 39 ≡ true = subst (λ n. is_ascii_alphabetic n ≡ true) (eqb-true b 39 e) h in cc

front_spelt : (b : ℕ) (bytes : List ℕ) → is_ascii_alphabetic b ≡ true → is_name_rest bytes ≡ true → (last_of b bytes == 39) ≡ true → is_spelt (front_of b bytes) ≡ true
front_spelt b [] letter h e = absurd (no_prime b letter e)
front_spelt b (d ∷ bytes) letter h e = and_true (is_ascii_alphabetic b) (list_all is_word_byte (front_of d bytes)) letter (primed_name d bytes h)

-- ---- words

is_named : (bytes : List ℕ) → is_spelt bytes ≡ true → nat_le (length bytes) 24 ≡ true → keyword_of bytes ≡ None → is_name bytes ≡ true
is_named bytes h few e =
    and_true (is_spelt bytes && nat_le (length bytes) 24) (is_none (keyword_of bytes)) (and_true (is_spelt bytes) (nat_le (length bytes) 24) h few) (ap is_none e)

same_word : {a b : Word} → Some a ≡ Some b → a ≡ b
same_word {a} e = ap (λ o. unwrap_or o a) e

sound_as : {a b : Word} → a ≡ b → is_word_sound a ≡ true → is_word_sound b ≡ true
sound_as e h = subst (λ word. is_word_sound word ≡ true) e h

small_as : {a b : Word} → a ≡ b → word_is_small b ≡ true → word_is_small a ≡ true
small_as e h = subst (λ word. word_is_small word ≡ true) (sym e) h

plain_sound : (bytes : List ℕ) (o : Option Keyword) (word : Word) → keyword_of bytes ≡ o → is_spelt bytes ≡ true → Some (named bytes o) ≡ Some word → word_is_small word ≡ true
    → is_word_sound word ≡ true
plain_sound bytes (Some k) word e h g small = sound_as (same_word g) refl
plain_sound bytes None word e h g small = sound_as (same_word g) (is_named bytes h (small_as (same_word g) small) e)

primed_sound : (bytes : List ℕ) (o : Option Keyword) (word : Word) → keyword_of bytes ≡ o → is_spelt bytes ≡ true → primed bytes o ≡ Some word → word_is_small word ≡ true
    → is_word_sound word ≡ true
primed_sound bytes (Some k) word e h g small = absurd (cc)
primed_sound bytes None word e h g small = sound_as (same_word g) (is_named bytes h (small_as (same_word g) small) e)

sign_sound : (o : Option Sign) (word : Word) → sign_word o ≡ Some word → is_word_sound word ≡ true
sign_sound (Some sign) word g = sound_as (same_word g) refl
sign_sound None word g = absurd (cc)

other_sound : (digit : Bool) (n : ℕ) (o : Option Sign) (word : Word) → (if digit then Some (w.Number (pos n)) else sign_word o) ≡ Some word → word_is_small word ≡ true
    → is_word_sound word ≡ true
other_sound true n o word g small = sound_as (same_word g) (small_as (same_word g) small)
other_sound false n o word g small = sign_sound o word g

ends_sound : (b : ℕ) (bytes front : List ℕ) (word : Word) (prime : Bool) → is_ascii_alphabetic b ≡ true → is_name_rest bytes ≡ true → front ≡ front_of b bytes
    → (last_of b bytes == 39) ≡ prime → (if prime then primed front (keyword_of front) else Some (named (b ∷ bytes) (keyword_of (b ∷ bytes)))) ≡ Some word
    → word_is_small word ≡ true → is_word_sound word ≡ true
ends_sound b bytes front word true letter h same e g small =
    primed_sound front (keyword_of front) word refl (subst (λ name. is_spelt name ≡ true) (sym same) (front_spelt b bytes letter h e)) g small
ends_sound b bytes front word false letter h same e g small =
    plain_sound (b ∷ bytes) (keyword_of (b ∷ bytes)) word refl (and_true (is_ascii_alphabetic b) (list_all is_word_byte bytes) letter (plain_name b bytes h e)) g small

first_sound : (b : ℕ) (bytes front : List ℕ) (end n : ℕ) (digit letter other : Bool) (o : Option Sign) (word : Word) → is_ascii_alphabetic b ≡ letter
    → (if letter then is_name_rest bytes else other) ≡ true → front ≡ front_of b bytes → end ≡ last_of b bytes
    → (if letter then (if end == 39 then primed front (keyword_of front) else Some (named (b ∷ bytes) (keyword_of (b ∷ bytes))))
    else (if digit then Some (w.Number (pos n)) else sign_word o)) ≡ Some word
    → word_is_small word ≡ true → is_word_sound word ≡ true
first_sound b bytes front end n digit true other o word first h same last g small =
    ends_sound b bytes front word (end == 39) first h same (ap (λ n. n == 39) (sym last)) g small
first_sound b bytes front end n digit false other o word first h same last g small = other_sound digit n o word g small

piece_sound : (bytes : List ℕ) (word : Word) → is_piece bytes ≡ true → word_of bytes ≡ Some word → word_is_small word ≡ true → is_word_sound word ≡ true
unfolding word_of
piece_sound [] word h g small = absurd (cc)
piece_sound (b ∷ bytes) word h g small =
    first_sound b bytes _ _ _ _ (is_ascii_alphabetic b) _ _ word refl h (front_read b bytes) (last_read b bytes) g small

-- ---- the tokens of a line

tokens_sound : {at : ℕ} {bytes : List ℕ} {tokens : List Token} → Tokens at bytes tokens → list_all is_small tokens ≡ true → list_all (λ t. is_word_sound t.word) tokens ≡ true
tokens_sound no_more h = refl
tokens_sound (blank e d) h = tokens_sound d h
tokens_sound (piece {n = n} {bytes = bytes} {word = word} {tokens = tokens} l e d) h =
    let parts = and_parts (word_is_small word) (list_all is_small tokens) h in
    and_true (is_word_sound word) (list_all (λ t. is_word_sound t.word) tokens) (piece_sound (take n bytes) word l.piece e parts.0) (tokens_sound d parts.1)

pub words_sound : {line : List ℕ} {tokens : List Token} → IsLexed line tokens → list_all (λ t. is_word_sound t.word) tokens ≡ true
words_sound l = tokens_sound l.cut l.small
