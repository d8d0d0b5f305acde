-- Kinds of bytes, and what is spelt with them.
use Rattle.std.specs.Prelude.{ℕ, Bool, false, ◌&&◌, ◌||◌, ◌==◌, nat_le, List, [], ◌∷◌}
use Rattle.std.specs.Char.{is_ascii_alphabetic, is_ascii_digit}
use Rattle.std.specs.List.{list_all}

-- a space or a tab
abbrev pub is_blank : ℕ → Bool
is_blank b = b == 32 || b == 9

-- a byte that may stand outside comments
abbrev pub is_allowed : ℕ → Bool
is_allowed b = b == 9 || (nat_le 32 b && nat_le b 126)

-- a letter, a digit or `_`
abbrev pub is_word_byte : ℕ → Bool
is_word_byte b = is_ascii_alphabetic b || is_ascii_digit b || b == 95

-- a letter, then letters, digits and `_`
abbrev pub is_spelt : List ℕ → Bool
is_spelt [] = false
is_spelt (b ∷ bytes) = is_ascii_alphabetic b && list_all is_word_byte bytes
