-- Runs of a unit.
use Rattle.std.specs.Prelude.{ℕ, ℤ, Bool, ◌&&◌, List, [], ◌∷◌, ◌++◌, map, Option, Some, is_some, codes}
use Rattle.std.specs.Option.{option_and_then, option_map}
use Rattle.std.specs.List.{list_any}
use Rattle.std.specs.Str.{bytes_eq}
use Rattle.c_subset.specs.declared.unit.CUnit.{CUnit}
use Rattle.c_subset.specs.Parts.{objects, functions, object_names}
use Rattle.c_subset.specs.Meaning.{Objects}
use Rattle.c_subset.specs.Statements.{Effect, calls_of}

-- the numbers that the objects start with (6.7.9)
abbrev pub initial_objects : CUnit → Objects
initial_objects unit = map (λ o. o.init) (objects unit)

-- a function with a parameter has the name
abbrev pub takes_call : CUnit → List ℕ → Bool
takes_call unit name = list_any (λ f. bytes_eq f.name name && is_some f.parameter) (functions unit)

-- what a call of the function of that name with this number does
abbrev pub call_effect : CUnit → List ℕ → ℤ → Effect
call_effect unit name z row = calls_of (object_names unit) (functions unit) name (Some z) row

-- the objects before the first call and after each; None where a function is missing or a call has no meaning
abbrev pub rows_from : CUnit → Objects → List (List ℕ × ℤ) → Option (List Objects)
rows_from unit row [] = Some (row ∷ [])
rows_from unit row (c ∷ cs) = option_and_then (λ next. option_map (λ rows. row ∷ rows) (rows_from unit next cs)) (call_effect unit (c.0) (c.1) row)

-- the function that is called when the variable of that name gets a new code
abbrev pub setter : List ℕ → List ℕ
setter name = codes "set_" ++ name

-- from the initialisers on; each input is the name of a variable with a new code
abbrev pub run_of : CUnit → List (List ℕ × ℤ) → Option (List Objects)
run_of unit inputs = rows_from unit (initial_objects unit) (map (λ i. (setter (i.0), i.1)) inputs)
