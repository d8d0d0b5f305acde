-- The names and the values of variables, as they are printed.
use Rattle.std.specs.Prelude.{ℕ, ◌/◌, ◌%◌, List, [], ◌++◌, codes, if◌then◌else◌, ◌==◌}
use Rattle.std.specs.List.{flat_map}
use Rattle.scr_spec.specs.Data.{Data}
use Rattle.scr_printer.specs.Names.{variable_name}
use Rattle.scr_printer.specs.Text.{value_text}
use Rattle.prove_decide.specs.declared.witness.Reading.{Reading}

-- a space and the name, for each of the variables
abbrev pub names_text : Data → List ℕ → List ℕ
names_text spec vs = flat_map (λ v. codes " " ++ variable_name spec v) vs

-- a prime stands behind the name at a new level
abbrev pub prime_text : ℕ → List ℕ
prime_text level = if level % 2 == 0 then [] else codes "'"

-- a space, the variable of the level and its value
abbrev pub reading_text : Data → Reading → List ℕ
reading_text spec r = codes " " ++ variable_name spec (r.level / 2) ++ prime_text r.level ++ codes "=" ++ value_text spec (r.level / 2) r.code
