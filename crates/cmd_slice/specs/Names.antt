-- Which variables some words name.
use Rattle.std.specs.Prelude.{◌≡◌, ℕ, List, ◌++◌, map, is_none, Option, Some, None, codes}
use Rattle.std.specs.List.{find}
use Rattle.scr_spec.specs.Data.{Data}
use Rattle.scr_spec.specs.Names.{variable_named}
use Rattle.cmd_slice.specs.declared.names.Selection.{Selection}
use Rattle.cmd_slice.specs.declared.names.Selection.TheVariants.{Variables, Refused}

-- the first word that names no variable
abbrev pub first_unknown : Data → List (List ℕ) → Option (List ℕ)
first_unknown spec words = find (λ word. is_none (variable_named spec word)) words

-- these are the numbers of the variables that the words name, in the order of the words
abbrev pub AreNumbers : Data → List (List ℕ) → List ℕ → Type 0
AreNumbers spec words numbers = map (variable_named spec) words ≡ map (λ v. Some v) numbers

-- the line on a word that names no variable
abbrev pub unknown_text : List ℕ → List ℕ
unknown_text word = codes "name " ++ word ++ codes ": unknown\n"

-- the line is that on the first word that names no variable
pub record IsUnknownLine (spec : Data) (words : List (List ℕ)) (line : List ℕ) : Type 0 where
  pub word : List ℕ
  pub first : first_unknown spec words ≡ Some word
  pub said : line ≡ unknown_text word

abbrev pub IsSelection : Data → List (List ℕ) → Selection → Type 0
IsSelection spec words (Variables numbers) = AreNumbers spec words numbers
IsSelection spec words (Refused line) = IsUnknownLine spec words line.items
