-- The form `BACK n`, which a replay takes and a plain script refuses.
use Rattle.std.specs.Prelude.{ℕ, Bool, false, not, ◌&&◌, ◌==◌, nat_le, if◌then◌else◌, List, [], ◌∷◌, Option, Some, None, codes}
use Rattle.std.specs.Str.{bytes_eq}
use Rattle.base.specs.Lines.{body}
use Rattle.base.specs.Decimals.{number_of}
use Rattle.base_script.specs.Words.{words_of, are_digits, is_readable}

abbrev pub has_zero_in_front : List ℕ → Bool
has_zero_in_front [] = false
has_zero_in_front (b ∷ bytes) = b == 48

-- a number from 1 to 256 without a leading zero
abbrev pub is_count : List ℕ → Bool
is_count word = are_digits word && not (has_zero_in_front word) && nat_le (number_of word) 256

-- BACK and a count
abbrev pub count_in : List ℕ → List ℕ → Option ℕ
count_in first word = if bytes_eq first (codes "BACK") && is_count word then Some (number_of word) else None

-- the count of these words, which are those of a BACK
abbrev pub words_back : List (List ℕ) → Option ℕ
words_back [] = None
words_back (first ∷ []) = None
words_back (first ∷ word ∷ []) = count_in first word
words_back (first ∷ word ∷ more ∷ words) = None

-- the count of a BACK line
abbrev pub count_back : List ℕ → Option ℕ
count_back line = if is_readable line then words_back (words_of (body line)) else None
