-- What a token stands for.
use Rattle.std.specs.Prelude.{ℕ, ◌+◌, ◌-◌, ◌*◌, min, pos, nat_le, Bool, not, ◌&&◌, if◌then◌else◌, ◌==◌, List, [], ◌∷◌, length, take, slice_index, Option, Some, None, codes}
use Rattle.std.specs.Char.{is_ascii_alphabetic, is_ascii_digit}
use Rattle.std.specs.Str.{bytes_eq}
use Rattle.std.specs.List.{list_all}
use Rattle.std.specs.Map.{lookup}
use Rattle.c_subset.specs.Names.{is_among}
use Rattle.c_subset.specs.Names as c
use Rattle.c_reader.specs.Word.{Word}
use Rattle.c_reader.specs.Word as w
use Rattle.c_reader.specs.declared.word.Sign.{Sign}
use Rattle.c_reader.specs.declared.word.Sign.TheVariants as s
use Rattle.c_reader.specs.declared.word.Keyword.{Keyword}
use Rattle.c_reader.specs.declared.word.Keyword.TheVariants as k

-- the keywords of the grammar
unfoldable pub keywords : List (List ℕ × Keyword)
keywords =
    (codes "long", k.Long) ∷
    (codes "void", k.Void) ∷
    (codes "if", k.If) ∷
    (codes "else", k.Else) ∷
    (codes "switch", k.Switch) ∷
    (codes "case", k.Case) ∷
    (codes "break", k.Break) ∷ []

-- the keywords of C, in three parts
unfoldable pub first_keywords : List (List ℕ)
first_keywords =
    codes "auto" ∷ codes "break" ∷ codes "case" ∷ codes "char" ∷ codes "const" ∷ codes "continue" ∷ codes "default" ∷ codes "do" ∷ codes "double" ∷ codes "else" ∷ codes "enum" ∷ codes "extern" ∷ []

unfoldable pub second_keywords : List (List ℕ)
second_keywords =
    codes "float" ∷ codes "for" ∷ codes "goto" ∷ codes "if" ∷ codes "inline" ∷ codes "int" ∷ codes "long" ∷ codes "register" ∷ codes "restrict" ∷ codes "return" ∷ codes "short" ∷ codes "signed" ∷ []

unfoldable pub third_keywords : List (List ℕ)
third_keywords =
    codes "sizeof" ∷ codes "static" ∷ codes "struct" ∷ codes "switch" ∷ codes "typedef" ∷ codes "union" ∷ codes "unsigned" ∷ codes "void" ∷ codes "volatile" ∷ codes "while" ∷ []

-- the signs of the grammar
unfoldable pub signs : List (List ℕ × Sign)
signs =
    (codes "(", s.OpenParen) ∷
    (codes ")", s.CloseParen) ∷
    (codes "{", s.OpenBrace) ∷
    (codes "}", s.CloseBrace) ∷
    (codes ";", s.Semicolon) ∷
    (codes ":", s.Colon) ∷
    (codes "=", s.Assign) ∷
    (codes "==", s.Equal) ∷
    (codes "!=", s.Differ) ∷
    (codes "<", s.Less) ∷
    (codes "<=", s.AtMost) ∷
    (codes ">", s.Greater) ∷
    (codes ">=", s.AtLeast) ∷
    (codes "+", s.Plus) ∷
    (codes "-", s.Minus) ∷
    (codes "*", s.Times) ∷
    (codes "!", s.Not) ∷
    (codes "&&", s.And) ∷
    (codes "||", s.Or) ∷ []

-- the sign that is spelt so
abbrev pub sign_of : List ℕ → Option Sign
sign_of bytes = lookup (bytes_eq bytes) signs

-- a name has at most 31 characters, and is no keyword of C
abbrev pub named : List ℕ → Option Keyword → Word
named bytes (Some keyword) = w.Reserved keyword
named bytes None = if nat_le (length bytes) 31 && not (is_among c.keywords bytes) then w.Name bytes else w.Other

-- the number that these digits go on from `n`; above 2147483647 it counts as 2147483648
abbrev pub number_from : ℕ → List ℕ → ℕ
number_from n [] = n
number_from n (b ∷ bytes) = number_from (min (10 * n + (b - 48)) 2147483648) bytes

-- the first digit is 0, and others stand behind it
abbrev pub is_led_by_zero : List ℕ → Bool
is_led_by_zero digits = slice_index digits 0 == 48 && not (length digits == 1)

-- at least one digit, no 0 in front of others, and of value at most 2147483647
abbrev pub is_numeral : List ℕ → Bool
is_numeral digits = not (length digits == 0) && list_all is_ascii_digit digits && not (is_led_by_zero digits) && nat_le (number_from 0 digits) 2147483647

-- the constant that a run is: a numeral with `L` behind it
abbrev pub run_word : List ℕ → Word
run_word run =
    let last = length run - 1 in
    if slice_index run last == 76 && is_numeral (take last run) then w.Constant (pos (number_from 0 (take last run))) else w.Other

-- a sign that no rule of the grammar names
abbrev pub sign_word : Option Sign → Word
sign_word (Some sign) = w.Sign sign
sign_word None = w.Other

-- the word that a token stands for
unfoldable pub word_of : List ℕ → Word
word_of piece =
    let first = slice_index piece 0 in
    if is_ascii_alphabetic first then named piece (lookup (bytes_eq piece) keywords)
    else (if is_ascii_digit first then run_word piece else sign_word (sign_of piece))
