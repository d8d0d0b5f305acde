-- What a machine is, and what a call answers and leaves.
use Rattle.std.specs.Prelude.{◌≡◌, ℕ, ℤ, cond, List, map, length, Option, Some, None, Ok, Err}
use Rattle.std.specs.declared.result.Result.{Result}
use Rattle.std.specs.Option.{unwrap_or, option_map}
use Rattle.std.specs.List.{filter_map}
use Rattle.c_subset.specs.declared.unit.CFunction.{CFunction}
use Rattle.c_subset.specs.declared.unit.CItem.{CItem}
use Rattle.c_subset.specs.declared.unit.CItem.TheVariants.{Object, Function}
use Rattle.c_subset.specs.declared.unit.CUnit.{CUnit}
use Rattle.c_subset.specs.Parts.{functions, object_names}
use Rattle.c_subset.specs.Meaning.{Objects}
use Rattle.c_subset.specs.Runs.{takes_call, call_effect}
use Rattle.c_machine.specs.declared.machine.MachineFault.{MachineFault}
use Rattle.c_machine.specs.declared.machine.MachineFault.TheVariants.{NoFunction, Overflow}
use Rattle.c_machine.specs.declared.code.Resolved.{Resolved}
use Rattle.c_machine.specs.Resolved.{resolved}

-- a unit with the present numbers of its objects
pub record Running : Type 0 where
  pub unit : CUnit
  pub objects : Objects

-- where a call has a meaning or has none
abbrev pub answer_to : Option Objects → Result (Unit {0}) MachineFault
answer_to None = Err Overflow
answer_to (Some row) = Ok tt

-- NoFunction where no function with a parameter has the name, Overflow where the call has no meaning
abbrev pub call_answer : Running → List ℕ → ℤ → Result (Unit {0}) MachineFault
call_answer machine name z = cond (takes_call machine.unit name) (answer_to (call_effect machine.unit name z machine.objects)) (Err NoFunction)

-- the objects after the call, or those before it where it has no meaning
abbrev pub after_call : Running → List ℕ → ℤ → Running
after_call machine name z =
    record {
      unit = machine.unit;
      objects = cond (takes_call machine.unit name) (unwrap_or (call_effect machine.unit name z machine.objects) machine.objects) machine.objects;
    }

-- the function, where it has a parameter
abbrev pub setter_of : CItem → Option CFunction
setter_of (Object o) = None
setter_of (Function f) = option_map (λ p. f) f.parameter

-- the names of the functions with a parameter
abbrev pub setter_names : CUnit → List (List ℕ)
setter_names unit = map (λ f. f.name) (filter_map setter_of unit.items)

-- the functions go by number, those with a parameter are named, and there is room for a second row of objects
pub record IsSet (unit : CUnit) (code : Resolved) (setters : List (List ℕ)) (row spare : Objects) : Type 0 where
  pub numbered : code ≡ resolved (object_names unit) (functions unit)
  pub named : setters ≡ setter_names unit
  pub room : length row ≡ length spare
