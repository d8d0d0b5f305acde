-- Variables by their names, and their names by their numbers.
use Rattle.std.specs.Prelude.{ℕ, List, [], Option, slice_get}
use Rattle.std.specs.Option.{option_map_or}
use Rattle.std.specs.List.{position}
use Rattle.std.specs.Str.{bytes_eq}
use Rattle.scr_spec.specs.Data.{Data}

-- the number of the first variable of that name
abbrev pub variable_named : Data → List ℕ → Option ℕ
variable_named spec name = position (λ x. bytes_eq x.name name) spec.variables

-- the name of the variable with this number; behind the last one there is none
abbrev pub variable_name : Data → ℕ → List ℕ
variable_name spec v = option_map_or (λ x. x.name) (slice_get spec.variables v) []
