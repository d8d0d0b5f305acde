-- Words behind the one that names a command.
use Rattle.std.specs.Prelude.{ℕ, ◌+◌, ◌-◌, List, [], ◌∷◌, Option, None, Some, decimal, if◌then◌else◌}
use Rattle.std.specs.Str.{bytes_eq}
use Rattle.std.specs.List.{find, range_with_len}

-- the words behind this one, where they begin with it
abbrev pub behind : List ℕ → List (List ℕ) → Option (List (List ℕ))
behind verb [] = None
behind verb (word ∷ words) = if bytes_eq word verb then Some words else None

-- the only word
abbrev pub only_word : Option (List (List ℕ)) → Option (List ℕ)
only_word None = None
only_word (Some []) = None
only_word (Some (word ∷ [])) = Some word
only_word (Some (word ∷ next ∷ words)) = None

-- both words
abbrev pub both_words : Option (List (List ℕ)) → Option (List ℕ × List ℕ)
both_words None = None
both_words (Some []) = None
both_words (Some (word ∷ [])) = None
both_words (Some (word ∷ next ∷ [])) = Some (word, next)
both_words (Some (word ∷ next ∷ other ∷ words)) = None

-- the number in the range whose decimal text is the word
unfoldable pub number_in : ℕ → ℕ → List ℕ → Option ℕ
number_in least greatest word = find (λ n. bytes_eq (decimal n) word) (range_with_len least (greatest + 1 - least))
