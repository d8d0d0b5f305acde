-- The spelling of a word is cut off as one token, which stands for the word.
use Rattle.std.proofs.Common.{◌≡◌, ℕ, ℤ, pos, negsuc, zero, suc, ◌+◌, ◌-◌, ◌*◌, ◌/◌, ◌%◌, ◌^◌, ◌<◌, ◌≤◌, Bool, true, false, ◌&&◌, ◌||◌, ◌==◌, min, List, [], ◌∷◌, ◌++◌, length, take, None, refl, ap, ◌∙◌, eqb-true, lit<, arith, length-append}
use Rattle.std.specs.Prelude.{nat_le, int_le, slice_index, codes, not}
use Rattle.std.specs.Fmt.{decimal}
use Rattle.std.specs.Char.{is_ascii_alphabetic, is_ascii_digit}
use Rattle.std.specs.List.{list_all, prefix_len}
use Rattle.std.specs.Map.{lookup}
use Rattle.std.specs.Str.{bytes_eq}
use Rattle.std.proofs.Math.Seq.{take-append_seam, get_or-append_seam}
use Rattle.std.proofs.lemmas.Bool.{and_parts, leb-true, le-leb}
use Rattle.std.proofs.lemmas.Slice.Eq.{bytes_eq-Decides}
use Rattle.std.proofs.lemmas.Fmt.{decimal_by_steps, decimal_nonempty, first_decimal, decimal_digit}
use Rattle.base.specs.Bytes.{is_word_byte}
use Rattle.c_subset.specs.Names.{is_word, is_among, is_c_name}
use Rattle.c_subset.specs.Names as c
use Rattle.c_subset.specs.Kinds.{is_constant, is_number_in_range}
use Rattle.c_reader.specs.Word.{Word}
use Rattle.c_reader.specs.Word as w
use Rattle.c_reader.specs.declared.word.Sign.{Sign}
use Rattle.c_reader.specs.declared.word.Sign.TheVariants as s
use Rattle.c_reader.specs.declared.word.Keyword.{Keyword}
use Rattle.c_reader.specs.declared.word.Keyword.TheVariants as k
use Rattle.c_reader.specs.Pieces.{is_run_byte, is_blank, starts, piece_len, space_len}
use Rattle.c_reader.specs.Words.{keywords, signs, number_from, is_led_by_zero, run_word, named, word_of}
use Rattle.c_print.specs.Marks.{keyword_text, sign_text, spelling}
use Rattle.base.proofs.Decimals.{digit_is, digits_more, less_ten}

-- ---- where a token ends

-- a byte that some sign goes on with
abbrev is_sign_byte : ℕ → Bool
is_sign_byte b = b == 61 || b == 43 || b == 45 || b == 62 || b == 60 || b == 38 || b == 124

-- no sign goes on with what stands in front
abbrev pub is_quiet : List ℕ → Bool
is_quiet [] = true
is_quiet (b ∷ bytes) = not (is_sign_byte b)

-- no word and no number goes on with it
abbrev pub ends_run : List ℕ → Bool
ends_run [] = true
ends_run (b ∷ bytes) = not (is_run_byte b)

-- a sign that no byte lengthens
abbrev pub is_lone_sign : Sign → Bool
is_lone_sign s.OpenParen = true
is_lone_sign s.CloseParen = true
is_lone_sign s.OpenBrace = true
is_lone_sign s.CloseBrace = true
is_lone_sign s.Semicolon = true
is_lone_sign s.Colon = true
is_lone_sign x = false

-- the word ends before these bytes
abbrev pub stops : Word → List ℕ → Bool
stops (w.Sign x) bytes = is_lone_sign x || is_quiet bytes
stops word bytes = ends_run bytes

not_true : (p : Bool) → not p ≡ true → p ≡ false
not_true true h = cc
not_true false h = refl

or_left : (p q : Bool) → (p || q) ≡ false → p ≡ false
or_left true q h = h
or_left false q h = refl

seven : (a b c d e f g : Bool) → not (a || b || c || d || e || f || g) ≡ true → (a ≡ false) × (b ≡ false) × (c ≡ false) × (d ≡ false) × (e ≡ false)
seven true b c d e f g h = cc
seven false true c d e f g h = cc
seven false false true d e f g h = cc
seven false false false true e f g h = cc
seven false false false false true f g h = cc
seven false false false false false f g h = (refl, refl, refl, refl, refl)

-- what does not stand in front
record Quiet (rest : List ℕ) : Type 0 where
  equal : starts 61 rest ≡ false
  plus : starts 43 rest ≡ false
  minus : starts 45 rest ≡ false
  greater : starts 62 rest ≡ false
  less : starts 60 rest ≡ false

quiet : (rest : List ℕ) → is_quiet rest ≡ true → Quiet rest
quiet [] h = record { equal = refl; plus = refl; minus = refl; greater = refl; less = refl }
quiet (b ∷ bytes) h =
    let f = seven (b == 61) (b == 43) (b == 45) (b == 62) (b == 60) (b == 38) (b == 124) h in
    record { equal = f.0; plus = f.1; minus = f.2; greater = f.3; less = f.4 }

-- ---- runs of bytes

run_stop : (rest : List ℕ) → ends_run rest ≡ true → prefix_len is_run_byte rest ≡ 0
run_stop [] h = refl
run_stop (b ∷ bytes) h = let e = not_true (is_run_byte b) h in rw e refl

word_stop : (rest : List ℕ) → ends_run rest ≡ true → prefix_len is_word_byte rest ≡ 0
word_stop [] h = refl
word_stop (b ∷ bytes) h = let e = or_left (is_word_byte b) (b == 46) (not_true (is_run_byte b) h) in rw e refl

one_suc : (n m : ℕ) → n ≡ m → 1 + n ≡ suc m
one_suc n m e = omega arith

run_len : (p : ℕ → Bool) (bytes rest : List ℕ) → list_all p bytes ≡ true → prefix_len p rest ≡ 0 → prefix_len p (bytes ++ rest) ≡ length bytes
run_len p [] rest h stop = stop
run_len p (b ∷ bytes) rest h stop = let f = and_parts (p b) (list_all p bytes) h in let e = f.0 in rw e (one_suc _ _ (run_len p bytes rest f.1 stop))

digit_letter : (b : ℕ) → is_ascii_digit b ≡ true → is_ascii_alphabetic b ≡ false
digit_letter b h = grind arith

letter_dark : (b : ℕ) → is_ascii_alphabetic b ≡ true → is_blank b ≡ false
letter_dark b h = grind arith

letter_no_slash : (b : ℕ) → is_ascii_alphabetic b ≡ true → (b == 47) ≡ false
letter_no_slash b h = grind arith

digit_dark : (b : ℕ) → is_ascii_digit b ≡ true → is_blank b ≡ false
digit_dark b h = grind arith

digit_no_slash : (b : ℕ) → is_ascii_digit b ≡ true → (b == 47) ≡ false
digit_no_slash b h = grind arith

digit_run : (b : ℕ) → is_ascii_digit b ≡ true → is_run_byte b ≡ true
digit_run b h = let e = digit_letter b h in rw (e, h) refl

letter_quiet : (b : ℕ) → is_ascii_alphabetic b ≡ true → is_sign_byte b ≡ false
letter_quiet b h = grind arith

digit_quiet : (b : ℕ) → is_ascii_digit b ≡ true → is_sign_byte b ≡ false
digit_quiet b h = grind arith

no_space : (b : ℕ) (bytes : List ℕ) → is_blank b ≡ false → (b == 47) ≡ false → space_len (b ∷ bytes) ≡ 0
unfolding space_len
no_space b bytes h g = rw (h, g) refl

-- ---- each word

-- the spelling is cut off, and stands for the word
pub record IsCut (word : Word) (rest : List ℕ) : Type 0 where
  pub some : 0 < length (spelling word)
  pub dark : space_len (spelling word ++ rest) ≡ 0
  pub cut : piece_len (spelling word ++ rest) ≡ length (spelling word)
  pub stands : word_of (spelling word) ≡ word

sign_dark : (x : Sign) (rest : List ℕ) → space_len (sign_text x ++ rest) ≡ 0
unfolding space_len
sign_dark s.OpenParen rest = refl
sign_dark x rest = refl

sign_len : (x : Sign) (rest : List ℕ) → (is_lone_sign x || is_quiet rest) ≡ true → piece_len (sign_text x ++ rest) ≡ length (sign_text x)
unfolding piece_len
sign_len s.Assign rest h = let q = quiet rest h in let e = q.equal in rw e refl
sign_len s.Less rest h = let q = quiet rest h in let e = q.equal in let f = q.less in rw (f, e) refl
sign_len s.Greater rest h = let q = quiet rest h in let e = q.equal in let f = q.greater in rw (f, e) refl
sign_len s.Plus rest h = let q = quiet rest h in let e = q.equal in let f = q.plus in rw (f, e) refl
sign_len s.Minus rest h = let q = quiet rest h in let e = q.equal in let f = q.minus in let g = q.greater in rw (f, e, g) refl
sign_len s.Times rest h = let q = quiet rest h in let e = q.equal in rw e refl
sign_len s.Not rest h = let q = quiet rest h in let e = q.equal in rw e refl
sign_len x rest h = refl

sign_read : (x : Sign) → word_of (sign_text x) ≡ w.Sign x
unfolding word_of signs
sign_read s.OpenParen = refl
sign_read x = refl

sign_some : (x : Sign) → 0 < length (sign_text x)
sign_some s.OpenParen = lit< tt
sign_some x = lit< tt

keyword_dark : (x : Keyword) (rest : List ℕ) → space_len (keyword_text x ++ rest) ≡ 0
unfolding space_len
keyword_dark k.Long rest = refl
keyword_dark x rest = refl

keyword_read : (x : Keyword) → word_of (keyword_text x) ≡ w.Reserved x
unfolding word_of keywords
keyword_read k.Long = refl
keyword_read x = refl

keyword_word : (x : Keyword) → is_word (keyword_text x) ≡ true
keyword_word k.Long = refl
keyword_word x = refl

word_some : (name : List ℕ) → is_word name ≡ true → 0 < length name
word_some [] h = absurd (cc)
word_some (b ∷ bytes) h = omega arith

word_len : (name rest : List ℕ) → is_word name ≡ true → ends_run rest ≡ true → piece_len (name ++ rest) ≡ length name
unfolding piece_len
word_len [] rest h stop = absurd (cc)
word_len (b ∷ bytes) rest h stop =
    let f = and_parts (is_ascii_alphabetic b) (list_all is_word_byte bytes) h in
    let letter = f.0 in rw letter (ap suc (run_len is_word_byte bytes rest f.1 (word_stop rest stop)))

word_dark : (name rest : List ℕ) → is_word name ≡ true → space_len (name ++ rest) ≡ 0
word_dark [] rest h = absurd (cc)
word_dark (b ∷ bytes) rest h =
    let f = and_parts (is_ascii_alphabetic b) (list_all is_word_byte bytes) h in no_space b (bytes ++ rest) (letter_dark b f.0) (letter_no_slash b f.0)

word_read : (name : List ℕ) → is_word name ≡ true → word_of name ≡ named name (lookup (bytes_eq name) keywords)
unfolding word_of
word_read [] h = absurd (cc)
word_read (b ∷ bytes) h =
    let f = and_parts (is_ascii_alphabetic b) (list_all is_word_byte bytes) h in let letter = f.0 in rw letter refl

-- ---- names

other_key : (t : Bool) (bytes key : List ℕ) (list : List (List ℕ)) → bytes_eq bytes key ≡ t → is_among list key ≡ true → is_among list bytes ≡ false → t ≡ false
other_key true bytes key list e h g =
    let same : bytes ≡ key = (bytes_eq-Decides bytes key).0 e in
    let there : is_among list bytes ≡ true = rw same h in cc
other_key false bytes key list e h g = refl

-- what is none of the keys is not found
lookup_none : (bytes : List ℕ) (list : List (List ℕ)) (table : List (List ℕ × Keyword)) → list_all (λ e. is_among list e.0) table ≡ true → is_among list bytes ≡ false
    → lookup (bytes_eq bytes) table ≡ None
lookup_none bytes list [] h g = refl
lookup_none bytes list ((key, word) ∷ table) h g =
    let f = and_parts (is_among list key) (list_all (λ e. is_among list e.0) table) h in
    let e : bytes_eq bytes key ≡ false = other_key (bytes_eq bytes key) bytes key list refl f.0 g in
    rw e (lookup_none bytes list table f.1 g)

all_known : list_all (λ e. is_among c.keywords e.0) keywords ≡ true
unfolding c.keywords keywords
all_known = refl

not_not : (p : Bool) → not p ≡ true → p ≡ false
not_not true h = cc
not_not false h = refl

name_read : (name : List ℕ) → is_c_name name ≡ true → word_of name ≡ w.Name name
name_read name h =
    let f = and_parts (is_word name && nat_le (length name) 31) (not (is_among c.keywords name)) h in
    let g = and_parts (is_word name) (nat_le (length name) 31) f.0 in
    let short = g.1 in
    let free = not_not (is_among c.keywords name) f.1 in
    let none = lookup_none name c.keywords keywords all_known free in
    word_read name g.0 ∙ rw (none, short, free) refl

pub name_cut : (name rest : List ℕ) → is_c_name name ≡ true → ends_run rest ≡ true → IsCut (w.Name name) rest
name_cut name rest h stop =
    let f = and_parts (is_word name && nat_le (length name) 31) (not (is_among c.keywords name)) h in
    let g = and_parts (is_word name) (nat_le (length name) 31) f.0 in
    record { some = word_some name g.0; dark = word_dark name rest g.0; cut = word_len name rest g.0 stop; stands = name_read name h }

-- a name goes on no sign
pub name_quiet : (name rest : List ℕ) → is_c_name name ≡ true → is_quiet (name ++ rest) ≡ true
name_quiet [] rest h = absurd (cc)
name_quiet (b ∷ bytes) rest h =
    let f = and_parts (is_word (b ∷ bytes) && nat_le (length (b ∷ bytes)) 31) (not (is_among c.keywords (b ∷ bytes))) h in
    let g = and_parts (is_word (b ∷ bytes)) (nat_le (length (b ∷ bytes)) 31) f.0 in
    let letter = (and_parts (is_ascii_alphabetic b) (list_all is_word_byte bytes) g.0).0 in
    let e = letter_quiet b letter in rw e refl

-- ---- constants

number_more : (n : ℕ) (bytes : List ℕ) (b : ℕ) → number_from n (bytes ++ b ∷ []) ≡ min (10 * number_from n bytes + (b - 48)) 2147483648
number_more n [] b = refl
number_more n (d ∷ bytes) b = number_more (min (10 * n + (d - 48)) 2147483648) bytes b

abbrev Reads : ℕ → List ℕ → Type 0
Reads n digits = (list_all is_ascii_digit digits ≡ true) × (n ≤ 2147483647 → number_from 0 digits ≡ n)

one_read : (d : ℕ) → d ≤ 2147483647 → min (10 * 0 + (48 + d - 48)) 2147483648 ≡ d
one_read d small = omega arith

more_read : (n m : ℕ) → n ≤ 2147483647 → m ≡ n / 10 → min (10 * m + (48 + n % 10 - 48)) 2147483648 ≡ n
more_read n m small e = omega arith

tenth_small : (n : ℕ) → n ≤ 2147483647 → n / 10 ≤ 2147483647
tenth_small n h = omega arith

one_digit : (n : ℕ) → n < 10 → Reads n ((48 + n) ∷ [])
one_digit n h = (let e = digit_is n h in rw e refl, λ small. one_read n small)

more_digits : (n : ℕ) (digits : List ℕ) → 10 ≤ n → Reads (n / 10) digits → Reads n (digits ++ ((48 + n % 10) ∷ []))
more_digits n digits h r = (
  digits_more digits (48 + n % 10) (r.0) (digit_is (n % 10) (less_ten n)),
  λ small. number_more 0 digits (48 + n % 10) ∙ more_read n (number_from 0 digits) small (r.1 (tenth_small n small)),
)

decimal_reads : (n : ℕ) → n < 2 ^ 64 → Reads n (decimal n)
decimal_reads n h = decimal_by_steps Reads one_digit more_digits n h

-- no 0 stands in front of other digits
above_zero : (x : ℕ) (t : Bool) → (x == 48) ≡ t → 48 < x → t ≡ false
above_zero x true e h = let same : x ≡ 48 = eqb-true x 48 e in absurd (omega arith)
above_zero x false e h = refl

not_led : (n : ℕ) → n < 2 ^ 64 → is_led_by_zero (decimal n) ≡ false
not_led zero h = let e : decimal 0 ≡ 48 ∷ [] = decimal_digit 0 (omega arith) in rw e refl
not_led (suc n) h =
    let f = first_decimal (suc n) (omega arith) h in
    let e : (slice_index (decimal (suc n)) 0 == 48) ≡ false = above_zero (slice_index (decimal (suc n)) 0) (slice_index (decimal (suc n)) 0 == 48) refl f in rw e refl

all_run : (digits : List ℕ) → list_all is_ascii_digit digits ≡ true → list_all is_run_byte (digits ++ codes "L") ≡ true
all_run [] h = refl
all_run (b ∷ digits) h =
    let f = and_parts (is_ascii_digit b) (list_all is_ascii_digit digits) h in
    let e = digit_run b f.0 in rw e (all_run digits f.1)

numeral_len : (digits rest : List ℕ) → 0 < length digits → list_all is_ascii_digit digits ≡ true → ends_run rest ≡ true
    → piece_len ((digits ++ codes "L") ++ rest) ≡ length (digits ++ codes "L")
unfolding piece_len
numeral_len [] rest some h stop = absurd (omega arith)
numeral_len (b ∷ digits) rest some h stop =
    let f = and_parts (is_ascii_digit b) (list_all is_ascii_digit digits) h in
    let digit = f.0 in
    let letter = digit_letter b digit in
    rw (letter, digit) (ap suc (run_len is_run_byte (digits ++ codes "L") rest (all_run digits f.1) (run_stop rest stop)))

numeral_dark : (digits rest : List ℕ) → 0 < length digits → list_all is_ascii_digit digits ≡ true → space_len ((digits ++ codes "L") ++ rest) ≡ 0
numeral_dark [] rest some h = absurd (omega arith)
numeral_dark (b ∷ digits) rest some h =
    let f = and_parts (is_ascii_digit b) (list_all is_ascii_digit digits) h in no_space b ((digits ++ codes "L") ++ rest) (digit_dark b f.0) (digit_no_slash b f.0)

numeral_quiet : (digits rest : List ℕ) → 0 < length digits → list_all is_ascii_digit digits ≡ true → is_quiet ((digits ++ codes "L") ++ rest) ≡ true
numeral_quiet [] rest some h = absurd (omega arith)
numeral_quiet (b ∷ digits) rest some h =
    let f = and_parts (is_ascii_digit b) (list_all is_ascii_digit digits) h in let e = digit_quiet b f.0 in rw e refl

one_longer : (digits : List ℕ) → length (digits ++ codes "L") - 1 ≡ length digits
one_longer digits = omega (arith, length-append digits (codes "L"))

some_digits : (digits : List ℕ) → 0 < length digits → (length digits == 0) ≡ false
some_digits [] h = absurd (omega arith)
some_digits (b ∷ digits) h = grind arith

numeral_run : (digits : List ℕ) (n : ℕ) → 0 < length digits → list_all is_ascii_digit digits ≡ true → is_led_by_zero digits ≡ false → number_from 0 digits ≡ n → n ≤ 2147483647
    → run_word (digits ++ codes "L") ≡ w.Constant (pos n)
numeral_run digits n some h led e small =
    let last = one_longer digits in
    let end : slice_index (digits ++ codes "L") (length digits) ≡ 76 = get_or-append_seam digits 76 [] 0 in
    let front : take (length digits) (digits ++ codes "L") ≡ digits = take-append_seam digits (codes "L") in
    let none = some_digits digits some in
    let within : nat_le n 2147483647 ≡ true = le-leb _ _ small in
    rw (last, end, front, none, h, led, e, within) refl

numeral_read : (digits : List ℕ) (n : ℕ) → 0 < length digits → list_all is_ascii_digit digits ≡ true → is_led_by_zero digits ≡ false → number_from 0 digits ≡ n → n ≤ 2147483647
    → word_of (digits ++ codes "L") ≡ w.Constant (pos n)
unfolding word_of
numeral_read [] n some h led e small = absurd (omega arith)
numeral_read (b ∷ digits) n some h led e small =
    let digit = (and_parts (is_ascii_digit b) (list_all is_ascii_digit digits) h).0 in
    let letter = digit_letter b digit in
    rw (letter, digit) (numeral_run (b ∷ digits) n some h led e small)

pub constant_cut : (v : ℤ) (rest : List ℕ) → is_constant v ≡ true → ends_run rest ≡ true → IsCut (w.Constant v) rest
constant_cut (negsuc n) rest h stop = absurd (cc)
constant_cut (pos n) rest h stop =
    let small : n ≤ 2147483647 = leb-true n 2147483647 ((and_parts (int_le (pos 0) (pos n)) (is_number_in_range (pos n)) h).1) in
    let reads = decimal_reads n (omega arith) in
    let some = decimal_nonempty n (omega arith) in
    record {
      some = omega (arith, length-append (decimal n) (codes "L"));
      dark = numeral_dark (decimal n) rest some reads.0;
      cut = numeral_len (decimal n) rest some reads.0 stop;
      stands = numeral_read (decimal n) n some reads.0 (not_led n (omega arith)) (reads.1 small) small;
    }

pub constant_quiet : (v : ℤ) (rest : List ℕ) → is_constant v ≡ true → is_quiet (spelling (w.Constant v) ++ rest) ≡ true
constant_quiet (negsuc n) rest h = absurd (cc)
constant_quiet (pos n) rest h =
    let small : n ≤ 2147483647 = leb-true n 2147483647 ((and_parts (int_le (pos 0) (pos n)) (is_number_in_range (pos n)) h).1) in
    numeral_quiet (decimal n) rest (decimal_nonempty n (omega arith)) (decimal_reads n (omega arith)).0

pub keyword_cut : (x : Keyword) (rest : List ℕ) → ends_run rest ≡ true → IsCut (w.Reserved x) rest
keyword_cut x rest stop =
    let spelt = keyword_word x in
    record { some = word_some _ spelt; dark = keyword_dark x rest; cut = word_len _ rest spelt stop; stands = keyword_read x }

pub sign_cut : (x : Sign) (rest : List ℕ) → (is_lone_sign x || is_quiet rest) ≡ true → IsCut (w.Sign x) rest
sign_cut x rest stop = record { some = sign_some x; dark = sign_dark x rest; cut = sign_len x rest stop; stands = sign_read x }

-- a word that a text may say
abbrev pub IsSpelt : Word → Type 0
IsSpelt (w.Name n) = is_c_name n ≡ true
IsSpelt (w.Constant v) = is_constant v ≡ true
IsSpelt w.Other = ⊥
IsSpelt word = Unit {0}

pub word_cut : (word : Word) (rest : List ℕ) → IsSpelt word → stops word rest ≡ true → IsCut word rest
word_cut (w.Name n) rest h stop = name_cut n rest h stop
word_cut (w.Constant v) rest h stop = constant_cut v rest h stop
word_cut (w.Reserved x) rest h stop = keyword_cut x rest stop
word_cut (w.Sign x) rest h stop = sign_cut x rest stop
word_cut w.Other rest h stop = absurd h
