-- The lines on a run.
use Rattle.std.specs.Prelude.{ℕ, ℤ, List, ◌++◌, codes, decimal}
use Rattle.std.specs.List.{flat_map, zip}
use Rattle.scr_spec.specs.Data.{Data}
use Rattle.scr_spec.specs.Meaning.{Codes}
use Rattle.scr_spec.specs.declared.spec.TypeDef.{TypeDef}
use Rattle.scr_spec.specs.declared.spec.Variable.{Variable}
use Rattle.scr_printer.specs.Text.{kind_value_text}

-- a space, the variable and its value
abbrev pub state_value_text : List TypeDef → Variable × ℤ → List ℕ
state_value_text types (variable, code) = codes " " ++ variable.name ++ codes "=" ++ kind_value_text types variable.kind code

-- the number of a state, and the value of each variable in it
abbrev pub state_text : Data → ℕ → Codes → List ℕ
state_text spec number at = decimal number ++ flat_map (state_value_text spec.types) (zip spec.variables at) ++ codes "\n"
