-- The words of a spaced text are its tokens.
use Rattle.std.proofs.Common.{◌≡◌, ℕ, ℤ, pos, negsuc, suc, ◌+◌, ◌-◌, ◌<◌, ◌≤◌, Bool, true, false, ◌&&◌, ◌||◌, ◌==◌, List, [], ◌∷◌, ◌++◌, length, take, drop, Option, Some, None, refl, sym, ap, subst, ◌∙◌, ◌⊎◌, inl, inr, eqb-true, lit<, arith, length-append}
use Rattle.std.specs.Prelude.{nat_le, slice_index, is_none, map, codes}
use Rattle.std.specs.Fmt.{decimal}
use Rattle.std.specs.Char.{is_ascii_alphabetic, is_ascii_digit}
use Rattle.std.specs.List.{list_all, prefix_len}
use Rattle.std.proofs.Math.Seq.{take-append_seam, drop-append_seam}
use Rattle.std.proofs.lemmas.Bool.{and_parts, leb-true}
use Rattle.std.proofs.lemmas.Fmt.{decimal_nonempty}
use Rattle.scr_tokens.specs.declared.word.Word.{Word}
use Rattle.scr_tokens.specs.declared.word.Word.TheVariants as w
use Rattle.scr_tokens.specs.declared.word.Sign.{Sign}
use Rattle.scr_tokens.specs.declared.word.Sign.TheVariants as s
use Rattle.scr_tokens.specs.declared.word.Keyword.{Keyword}
use Rattle.scr_tokens.specs.declared.word.Keyword.TheVariants as k
use Rattle.scr_tokens.specs.declared.word.Token.{Token}
use Rattle.base.specs.Bytes.{is_word_byte}
use Rattle.scr_tokens.specs.Piece.{name_rest_len, starts, piece_len, IsLongest}
use Rattle.base.specs.declared.limits.TheConstants.{NUMBER_LIMIT}
use Rattle.scr_tokens.specs.Words.{keyword_of, word_of, named, primed, declaration_words, table_words, signs}
use Rattle.base.specs.Decimals.{decimal_of, number_of}
use Rattle.scr_tokens.specs.Tokens.{Tokens, no_more, blank, piece}
use Rattle.scr_tokens.proofs.Longest.{cuts}
use Rattle.base.proofs.Decimals.{decimal_spells}
use Rattle.scr_spec.specs.NameSpace.{is_spelt, is_name}
use Rattle.scr_printer.specs.declared.line.Behind.{Behind}
use Rattle.scr_printer.specs.declared.line.Behind.TheVariants.{Opening, Event, Operand, Other}
use Rattle.scr_roundtrip.specs.Laws.{is_sound, SpacedLexes}
use Rattle.scr_printer.specs.Spelling.{keyword_text, sign_text, spelling, behind_keyword, behind_sign, behind_word, is_closing, is_open_paren, is_joined, gap, spaced}

-- ---- where a piece ends

-- bytes that lengthen no piece but a name: a space, `(`, `)` and `,`
abbrev pub is_stop : ℕ → Bool
is_stop b = b == 32 || b == 40 || b == 41 || b == 44

-- behind a piece nothing stands that would lengthen it
abbrev pub Stops : List ℕ → Type 0
Stops rest = (rest ≡ []) ⊎ ((b : ℕ) × (bytes : List ℕ) × (rest ≡ b ∷ bytes) × ((b ≡ 32) ⊎ (b ≡ 40) ⊎ (b ≡ 41) ⊎ (b ≡ 44)))

pub keyword_spelt : (keyword : Keyword) → is_spelt (keyword_text keyword) ≡ true
keyword_spelt k.Specification = refl
keyword_spelt k.TypeWord = refl
keyword_spelt k.Const = refl
keyword_spelt k.Monitored = refl
keyword_spelt k.ModeClass = refl
keyword_spelt k.Term = refl
keyword_spelt k.Controlled = refl
keyword_spelt k.Init = refl
keyword_spelt k.Condition = refl
keyword_spelt k.Event = refl
keyword_spelt k.Modes = refl
keyword_spelt k.Over = refl
keyword_spelt k.Row = refl
keyword_spelt k.Values = refl
keyword_spelt k.From = refl
keyword_spelt k.To = refl
keyword_spelt k.End = refl
keyword_spelt k.Finish = refl
keyword_spelt k.And = refl
keyword_spelt k.Or = refl
keyword_spelt k.Not = refl
keyword_spelt k.True = refl
keyword_spelt k.False = refl
keyword_spelt k.When = refl
keyword_spelt k.Never = refl
keyword_spelt k.Boolean = refl
keyword_spelt k.Nat = refl
keyword_spelt k.Step = refl
keyword_spelt k.Assert = refl

keyword_read : (keyword : Keyword) → keyword_of (keyword_text keyword) ≡ Some keyword
unfolding declaration_words table_words
keyword_read k.Specification = refl
keyword_read k.TypeWord = refl
keyword_read k.Const = refl
keyword_read k.Monitored = refl
keyword_read k.ModeClass = refl
keyword_read k.Term = refl
keyword_read k.Controlled = refl
keyword_read k.Init = refl
keyword_read k.Condition = refl
keyword_read k.Event = refl
keyword_read k.Modes = refl
keyword_read k.Over = refl
keyword_read k.Row = refl
keyword_read k.Values = refl
keyword_read k.From = refl
keyword_read k.To = refl
keyword_read k.End = refl
keyword_read k.Finish = refl
keyword_read k.And = refl
keyword_read k.Or = refl
keyword_read k.Not = refl
keyword_read k.True = refl
keyword_read k.False = refl
keyword_read k.When = refl
keyword_read k.Never = refl
keyword_read k.Boolean = refl
keyword_read k.Nat = refl
keyword_read k.Step = refl
keyword_read k.Assert = refl

-- ---- the length of a piece

-- behind these no name, number or sign goes on
stop_name : (rest : List ℕ) → Stops rest → name_rest_len rest ≡ 0
stop_name rest (inl e) = rw e refl
stop_name rest (inr (b, bytes, e, inl h)) = rw (e, h) refl
stop_name rest (inr (b, bytes, e, inr (inl h))) = rw (e, h) refl
stop_name rest (inr (b, bytes, e, inr (inr (inl h)))) = rw (e, h) refl
stop_name rest (inr (b, bytes, e, inr (inr (inr h)))) = rw (e, h) refl

stop_word : (rest : List ℕ) → Stops rest → prefix_len is_word_byte rest ≡ 0
stop_word rest (inl e) = rw e refl
stop_word rest (inr (b, bytes, e, inl h)) = rw (e, h) refl
stop_word rest (inr (b, bytes, e, inr (inl h))) = rw (e, h) refl
stop_word rest (inr (b, bytes, e, inr (inr (inl h)))) = rw (e, h) refl
stop_word rest (inr (b, bytes, e, inr (inr (inr h)))) = rw (e, h) refl

stop_digit : (rest : List ℕ) → Stops rest → prefix_len is_ascii_digit rest ≡ 0
stop_digit rest (inl e) = rw e refl
stop_digit rest (inr (b, bytes, e, inl h)) = rw (e, h) refl
stop_digit rest (inr (b, bytes, e, inr (inl h))) = rw (e, h) refl
stop_digit rest (inr (b, bytes, e, inr (inr (inl h)))) = rw (e, h) refl
stop_digit rest (inr (b, bytes, e, inr (inr (inr h)))) = rw (e, h) refl

stop_equal : (rest : List ℕ) → Stops rest → starts 61 rest ≡ false
stop_equal rest (inl e) = rw e refl
stop_equal rest (inr (b, bytes, e, inl h)) = rw (e, h) refl
stop_equal rest (inr (b, bytes, e, inr (inl h))) = rw (e, h) refl
stop_equal rest (inr (b, bytes, e, inr (inr (inl h)))) = rw (e, h) refl
stop_equal rest (inr (b, bytes, e, inr (inr (inr h)))) = rw (e, h) refl

-- letters, digits and `_` in front
name_len : (bytes rest : List ℕ) → list_all is_word_byte bytes ≡ true → Stops rest → name_rest_len (bytes ++ rest) ≡ length bytes
name_len [] rest h stop = stop_name rest stop
name_len (b ∷ bytes) rest h stop =
    let parts = and_parts (is_word_byte b) (list_all is_word_byte bytes) h in let word = parts.0 in rw word (ap suc (name_len bytes rest (parts.1) stop))

-- and a prime behind them
prime_len : (bytes rest : List ℕ) → list_all is_word_byte bytes ≡ true → name_rest_len ((bytes ++ codes "'") ++ rest) ≡ suc (length bytes)
prime_len [] rest h = refl
prime_len (b ∷ bytes) rest h =
    let parts = and_parts (is_word_byte b) (list_all is_word_byte bytes) h in let word = parts.0 in rw word (ap suc (prime_len bytes rest (parts.1)))

one_suc : (n m : ℕ) → n ≡ m → 1 + n ≡ suc m
one_suc n m e = omega arith

-- digits in front
digits_len : (bytes rest : List ℕ) → list_all is_ascii_digit bytes ≡ true → Stops rest → prefix_len is_ascii_digit (bytes ++ rest) ≡ length bytes
digits_len [] rest h stop = stop_digit rest stop
digits_len (b ∷ bytes) rest h stop =
    let parts = and_parts (is_ascii_digit b) (list_all is_ascii_digit bytes) h in let digit = parts.0 in rw digit (one_suc _ _ (digits_len bytes rest (parts.1) stop))

-- a digit is no letter
digit_letter : (b : ℕ) → is_ascii_digit b ≡ true → is_ascii_alphabetic b ≡ false
digit_letter b h = grind arith

spelt_len : (name rest : List ℕ) → is_spelt name ≡ true → Stops rest → piece_len (name ++ rest) ≡ length name
unfolding piece_len
spelt_len [] rest h stop = absurd (cc)
spelt_len (b ∷ bytes) rest h stop =
    let parts = and_parts (is_ascii_alphabetic b) (list_all is_word_byte bytes) h in let letter = parts.0 in rw letter (ap suc (name_len bytes rest (parts.1) stop))

primed_len : (name rest : List ℕ) → is_spelt name ≡ true → piece_len ((name ++ codes "'") ++ rest) ≡ suc (length name)
unfolding piece_len
primed_len [] rest h = absurd (cc)
primed_len (b ∷ bytes) rest h =
    let parts = and_parts (is_ascii_alphabetic b) (list_all is_word_byte bytes) h in let letter = parts.0 in rw letter (ap suc (prime_len bytes rest (parts.1)))

number_len : (digits rest : List ℕ) → 0 < length digits → list_all is_ascii_digit digits ≡ true → Stops rest → piece_len (digits ++ rest) ≡ length digits
unfolding piece_len
number_len [] rest some h stop = absurd (omega arith)
number_len (b ∷ bytes) rest some h stop =
    let parts = and_parts (is_ascii_digit b) (list_all is_ascii_digit bytes) h in
    let digit = parts.0 in
    let letter = digit_letter b digit in
    rw (letter, digit) (ap suc (digits_len bytes rest (parts.1) stop))

sign_len : (sign : Sign) (rest : List ℕ) → Stops rest → piece_len (sign_text sign ++ rest) ≡ length (sign_text sign)
unfolding piece_len
sign_len s.AtT rest stop = ap (λ n. suc (1 + n)) (stop_word rest stop)
sign_len s.AtF rest stop = ap (λ n. suc (1 + n)) (stop_word rest stop)
sign_len s.AtC rest stop = ap (λ n. suc (1 + n)) (stop_word rest stop)
sign_len s.Less rest stop = let e = stop_equal rest stop in rw e refl
sign_len s.Greater rest stop = let e = stop_equal rest stop in rw e refl
sign_len sign rest stop = refl

-- ---- numbers

-- a number within the limit counts as it is
number_kept : (n : ℕ) (digits : List ℕ) → n ≤ NUMBER_LIMIT → decimal_of digits ≡ n → number_of digits ≡ n
number_kept n digits small e = omega arith

-- ---- the word of a piece

pub less_one : (n : ℕ) → suc n - 1 ≡ n
less_one n = omega arith

by_prime : (b : ℕ) (prime : Bool) → (b == 39) ≡ prime → is_word_byte b ≡ true → (b == 39) ≡ false
by_prime b true e h = let no : is_word_byte 39 ≡ true = subst (λ n. is_word_byte n ≡ true) (eqb-true b 39 e) h in absurd (cc)
by_prime b false e h = e

not_prime : (b : ℕ) → is_word_byte b ≡ true → (b == 39) ≡ false
not_prime b h = by_prime b (b == 39) refl h

last_plain : (b : ℕ) (bytes : List ℕ) → is_word_byte b ≡ true → list_all is_word_byte bytes ≡ true → (slice_index (b ∷ bytes) (length bytes) == 39) ≡ false
last_plain b [] h k = not_prime b h
last_plain b (d ∷ bytes) h k = let parts = and_parts (is_word_byte d) (list_all is_word_byte bytes) k in last_plain d bytes (parts.0) (parts.1)

letter_word : (b : ℕ) → is_ascii_alphabetic b ≡ true → is_word_byte b ≡ true
letter_word b h = rw h refl

-- letters, digits and `_` behind a letter are a name or a reserved word
spelt_word : (name : List ℕ) → is_spelt name ≡ true → word_of name ≡ Some (named name (keyword_of name))
unfolding word_of
spelt_word [] h = absurd (cc)
spelt_word (b ∷ bytes) h =
    let parts = and_parts (is_ascii_alphabetic b) (list_all is_word_byte bytes) h in
    let letter = parts.0 in
    let e = less_one (length bytes) in
    let prime = last_plain b bytes (letter_word b letter) (parts.1) in
    rw (letter, e, prime) refl

last_prime : (name : List ℕ) → slice_index (name ++ codes "'") (length name) ≡ 39
last_prime [] = refl
last_prime (b ∷ bytes) = last_prime bytes

longer : (name : List ℕ) → length (name ++ codes "'") - 1 ≡ length name
longer name = omega (arith, length-append name (codes "'"))

first_prime : (name : List ℕ) → is_spelt name ≡ true → is_ascii_alphabetic (slice_index (name ++ codes "'") 0) ≡ true
first_prime [] h = absurd (cc)
first_prime (b ∷ bytes) h = (and_parts (is_ascii_alphabetic b) (list_all is_word_byte bytes) h).0

primed_word : (name : List ℕ) → is_spelt name ≡ true → word_of (name ++ codes "'") ≡ primed name (keyword_of name)
unfolding word_of
primed_word name h =
    let letter = first_prime name h in
    let end = longer name in
    let prime = last_prime name in
    let front : take (length name) (name ++ codes "'") ≡ name = take-append_seam name (codes "'") in
    rw (letter, end, prime, front) refl

number_word : (digits : List ℕ) (n : ℕ) → 0 < length digits → list_all is_ascii_digit digits ≡ true → number_of digits ≡ n → word_of digits ≡ Some (w.Number (pos n))
unfolding word_of
number_word [] n some h e = absurd (omega arith)
number_word (b ∷ bytes) n some h e =
    let parts = and_parts (is_ascii_digit b) (list_all is_ascii_digit bytes) h in
    let digit = parts.0 in
    let letter = digit_letter b digit in
    rw (letter, digit) (ap (λ m. Some (w.Number (pos m))) e)

sign_read : (sign : Sign) → word_of (sign_text sign) ≡ Some (w.Sign sign)
unfolding word_of signs
sign_read s.AtT = refl
sign_read s.AtF = refl
sign_read s.AtC = refl
sign_read s.OpenParen = refl
sign_read s.CloseParen = refl
sign_read s.OpenBrace = refl
sign_read s.CloseBrace = refl
sign_read s.Comma = refl
sign_read s.Colon = refl
sign_read s.Bar = refl
sign_read s.Equal = refl
sign_read s.Differ = refl
sign_read s.Less = refl
sign_read s.AtMost = refl
sign_read s.Greater = refl
sign_read s.AtLeast = refl
sign_read s.Plus = refl
sign_read s.Minus = refl
sign_read s.Times = refl
sign_read s.Dots = refl

-- ---- each word

none_is : (o : Option Keyword) → is_none o ≡ true → o ≡ None
none_is None h = refl
none_is (Some keyword) h = absurd (cc)

-- it is spelt, and is no reserved word
is_unreserved : (name : List ℕ) → is_name name ≡ true → (is_spelt name ≡ true) × (keyword_of name ≡ None)
is_unreserved name h =
    let all = and_parts (is_spelt name && nat_le (length name) 24) (is_none (keyword_of name)) h in
    let spelt = and_parts (is_spelt name) (nat_le (length name) 24) (all.0) in
    (spelt.0, none_is (keyword_of name) (all.1))

-- the spelling of a word is cut off as one piece, which stands for the word
pub record IsRead (word : Word) (rest : List ℕ) : Type 0 where
  pub some : 0 < length (spelling word)
  pub cut : piece_len (spelling word ++ rest) ≡ length (spelling word)
  pub stands : word_of (spelling word) ≡ Some word

spelt_some : (name : List ℕ) → is_spelt name ≡ true → 0 < length name
spelt_some [] h = absurd (cc)
spelt_some (b ∷ bytes) h = omega arith

name_read : (name rest : List ℕ) → is_name name ≡ true → Stops rest → IsRead (w.Name name) rest
name_read name rest h stop =
    let parts = is_unreserved name h in
    let no_keyword = parts.1 in
    record { some = spelt_some name (parts.0); cut = spelt_len name rest (parts.0) stop; stands = spelt_word name (parts.0) ∙ rw no_keyword refl }

primed_read : (name rest : List ℕ) → is_name name ≡ true → IsRead (w.Primed name) rest
primed_read name rest h =
    let parts = is_unreserved name h in
    let no_keyword = parts.1 in
    record {
      some = omega (arith, length-append name (codes "'"));
      cut = primed_len name rest (parts.0) ∙ omega (arith, length-append name (codes "'"));
      stands = primed_word name (parts.0) ∙ rw no_keyword refl;
    }

keyword_is_read : (keyword : Keyword) (rest : List ℕ) → Stops rest → IsRead (w.Reserved keyword) rest
keyword_is_read keyword rest stop =
    let spelt = keyword_spelt keyword in
    record { some = spelt_some _ spelt; cut = spelt_len _ rest spelt stop; stands = spelt_word _ spelt ∙ ap (λ k. Some (named (keyword_text keyword) k)) (keyword_read keyword) }

number_is_read : (n : ℤ) (rest : List ℕ) → is_sound (w.Number n) ≡ true → Stops rest → IsRead (w.Number n) rest
number_is_read (pos n) rest h stop =
    let small : n ≤ 1000000 = leb-true n 1000000 ((and_parts (nat_le 0 n) (nat_le n 1000000) h).1) in
    let spells = decimal_spells n (omega arith) in
    let some = decimal_nonempty n (omega arith) in
    record { some = some; cut = number_len (decimal n) rest some spells.0 stop; stands = number_word (decimal n) n some spells.0 (number_kept n (decimal n) small spells.1) }
number_is_read (negsuc n) rest h stop = absurd (cc)

sign_some : (sign : Sign) → 0 < length (sign_text sign)
sign_some s.AtT = lit< tt
sign_some sign = lit< tt

sign_is_read : (sign : Sign) (rest : List ℕ) → piece_len (sign_text sign ++ rest) ≡ length (sign_text sign) → IsRead (w.Sign sign) rest
sign_is_read sign rest cut = record { some = sign_some sign; cut = cut; stands = sign_read sign }

-- ---- what stands behind a word

closing_text : (word : Word) → is_closing word ≡ true → (spelling word ≡ 41 ∷ []) ⊎ (spelling word ≡ 44 ∷ [])
closing_text (w.Sign s.CloseParen) h = inl refl
closing_text (w.Sign s.Comma) h = inr refl
closing_text word h = absurd (cc)

open_text : (word : Word) → is_open_paren word ≡ true → spelling word ≡ 40 ∷ []
open_text (w.Sign s.OpenParen) h = refl
open_text word h = absurd (cc)

-- no space is needed before `(`, `)` and `,`
closing_stops : (word : Word) (rest : List ℕ) → is_closing word ≡ true → Stops (spelling word ++ rest)
closing_stops word rest h = elim (closing_text word h) [
  | inl e ↦ inr (41, rest, ap (λ t. t ++ rest) e, inr (inr (inl refl)))
  | inr e ↦ inr (44, rest, ap (λ t. t ++ rest) e, inr (inr (inr refl)))
]

gap_stops : (joined : Bool) (word : Word) (rest : List ℕ) → (joined ≡ true → Stops (spelling word ++ rest)) → Stops (gap joined ++ (spelling word ++ rest))
gap_stops true word rest f = f refl
gap_stops false word rest f = inr (32, spelling word ++ rest, refl, inl refl)

or_stops : (opening closing : Bool) (word : Word) (rest : List ℕ) → is_open_paren word ≡ opening → is_closing word ≡ closing → (opening || closing) ≡ true → Stops (spelling word ++ rest)
or_stops true closing word rest e f h = inr (40, rest, ap (λ t. t ++ rest) (open_text word e), inr (inl refl))
or_stops false closing word rest e f h = closing_stops word rest (f ∙ h)

operand_stops : (ws : List Word) → Stops (spaced Operand ws)
operand_stops [] = inl refl
operand_stops (word ∷ ws) = gap_stops (is_closing word) word (spaced (behind_word Operand word) ws) (closing_stops word _)

other_stops : (ws : List Word) → Stops (spaced Other ws)
other_stops [] = inl refl
other_stops (word ∷ ws) = gap_stops (is_closing word) word (spaced (behind_word Other word) ws) (closing_stops word _)

event_stops : (ws : List Word) → Stops (spaced Event ws)
event_stops [] = inl refl
event_stops (word ∷ ws) =
    gap_stops (is_open_paren word || is_closing word) word (spaced (behind_word Event word) ws) (or_stops (is_open_paren word) (is_closing word) word _ refl refl)

keyword_stops : (keyword : Keyword) (ws : List Word) → Stops (spaced (behind_keyword keyword) ws)
keyword_stops k.True ws = operand_stops ws
keyword_stops k.False ws = operand_stops ws
keyword_stops keyword ws = other_stops ws

sign_behind : (behind : Behind) (sign : Sign) (ws : List Word) → piece_len (sign_text sign ++ spaced (behind_sign behind sign) ws) ≡ length (sign_text sign)
unfolding piece_len
sign_behind behind s.AtT ws = sign_len s.AtT _ (event_stops ws)
sign_behind behind s.AtF ws = sign_len s.AtF _ (event_stops ws)
sign_behind behind s.AtC ws = sign_len s.AtC _ (event_stops ws)
sign_behind behind s.Less ws = sign_len s.Less _ (other_stops ws)
sign_behind behind s.Greater ws = sign_len s.Greater _ (other_stops ws)
sign_behind behind sign ws = refl

read_behind : (behind : Behind) (word : Word) (ws : List Word) → is_sound word ≡ true → IsRead word (spaced (behind_word behind word) ws)
read_behind behind (w.Name name) ws h = name_read name _ h (operand_stops ws)
read_behind behind (w.Primed name) ws h = primed_read name _ h
read_behind behind (w.Number n) ws h = number_is_read n _ h (operand_stops ws)
read_behind behind (w.Reserved keyword) ws h = keyword_is_read keyword _ (keyword_stops keyword ws)
read_behind behind (w.Sign sign) ws h = sign_is_read sign _ (sign_behind behind sign ws)

-- ---- all words

piece_at : (at : ℕ) (word : Word) (rest : List ℕ) (tokens : List Token) → IsRead word rest → Tokens (at + length (spelling word)) rest tokens
    → Tokens at (spelling word ++ rest) (record { column = at; word = word } ∷ tokens)
piece_at at word rest tokens read d =
    let bytes = spelling word ++ rest in
    let e = read.cut in
    let some = read.some in
    let within : piece_len bytes ≤ length bytes = omega (arith, length-append (spelling word) rest) in
    let longest : IsLongest bytes (length (spelling word)) = subst (λ n. IsLongest bytes n) e ((cuts bytes within).found (omega arith)) in
    let front : take (length (spelling word)) bytes ≡ spelling word = take-append_seam (spelling word) rest in
    let back : drop (length (spelling word)) bytes ≡ rest = drop-append_seam (spelling word) rest in
    piece longest (ap word_of front ∙ read.stands) (subst (λ bytes. Tokens (at + length (spelling word)) bytes tokens) (sym back) d)

-- the tokens of these bytes, in whatever column they begin, are these words
abbrev Lexes : List ℕ → List Word → Type 0
Lexes bytes ws = (at : ℕ) → (tokens : List Token) × Tokens at bytes tokens × (map (λ t. t.word) tokens ≡ ws)

over_gap : (joined : Bool) (bytes : List ℕ) (ws : List Word) → Lexes bytes ws → Lexes (gap joined ++ bytes) ws
over_gap true bytes ws f at = f at
over_gap false bytes ws f at = let r = f (at + 1) in (r.0, blank refl (r.1), r.2)

lexes : (behind : Behind) (ws : List Word) → list_all is_sound ws ≡ true → Lexes (spaced behind ws) ws
lexes behind [] h at = ([], no_more, refl)
lexes behind (word ∷ ws) h at =
    let parts = and_parts (is_sound word) (list_all is_sound ws) h in
    let rest = spaced (behind_word behind word) ws in
    over_gap (is_joined behind word) (spelling word ++ rest) (word ∷ ws) (λ at.
    let more = lexes (behind_word behind word) ws (parts.1) (at + length (spelling word)) in
    (record { column = at; word = word } ∷ more.0, piece_at at word rest (more.0) (read_behind behind word ws (parts.0)) (more.1), ap (λ ws. word ∷ ws) (more.2))) at

pub spaced_lexes : SpacedLexes
spaced_lexes ws h = lexes Opening ws h 0
