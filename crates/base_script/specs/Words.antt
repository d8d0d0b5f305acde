-- The words of a line of a script or of calls.
use Rattle.std.specs.Prelude.{ℕ, Bool, false, ◌&&◌, ◌==◌, nat_le, if◌then◌else◌, List, [], ◌∷◌, ◌++◌, length}
use Rattle.std.specs.Char.{is_ascii_digit}
use Rattle.std.specs.List.{list_all}
use Rattle.base.specs.Bytes.{is_blank}
use Rattle.base.specs.Bytes.{is_allowed}
use Rattle.base.specs.Lines.{body}

-- at most 4,096 bytes, and outside comments only those that may stand there
abbrev pub is_readable : List ℕ → Bool
is_readable line = nat_le (length line) 4096 && list_all is_allowed (body line)

-- a word that has any bytes, and then these
abbrev pub ended : List ℕ → List (List ℕ) → List (List ℕ)
ended [] words = words
ended (b ∷ bytes) words = (b ∷ bytes) ∷ words

-- behind so much of a word: a blank ends the word, and any other byte goes on with it
abbrev pub words_from : List ℕ → List ℕ → List (List ℕ)
words_from word [] = ended word []
words_from word (b ∷ bytes) = if is_blank b then ended word (words_from [] bytes) else words_from (word ++ b ∷ []) bytes

-- what stands between blanks
abbrev pub words_of : List ℕ → List (List ℕ)
words_of bytes = words_from [] bytes

-- ---- numbers

-- at least one digit, and digits alone
abbrev pub are_digits : List ℕ → Bool
are_digits [] = false
are_digits (b ∷ bytes) = list_all is_ascii_digit (b ∷ bytes)

-- digits, with `-` directly before them or not
abbrev pub is_number : List ℕ → Bool
is_number [] = false
is_number (b ∷ bytes) = if b == 45 then are_digits bytes else are_digits (b ∷ bytes)
