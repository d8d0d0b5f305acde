-- The unit of a specification: the codes of all variables, and for each monitored variable a function that makes one step.
use Rattle.std.specs.Prelude.{ℕ, Some, None, List, [], ◌∷◌, ◌++◌, map, length}
use Rattle.std.specs.List.{flat_map, filter, range_with_len}
use Rattle.scr_spec.specs.Data.{Data}
use Rattle.scr_spec.specs.Names.{variable_name}
use Rattle.scr_spec.specs.Meaning.{Codes, code_of}
use Rattle.scr_spec.specs.Relations.{is_monitored}
use Rattle.c_subset.specs.declared.expr.CExpr.TheVariants.{Name}
use Rattle.c_subset.specs.declared.stmt.CStmt.{CStmt}
use Rattle.c_subset.specs.declared.stmt.CStmt.TheVariants.{Assign, Call}
use Rattle.c_subset.specs.declared.unit.CFunction.{CFunction}
use Rattle.c_subset.specs.declared.unit.CItem.{CItem}
use Rattle.c_subset.specs.declared.unit.CItem.TheVariants.{Object, Function}
use Rattle.c_subset.specs.declared.unit.CUnit.{CUnit}
use Rattle.c_subset.specs.Runs.{setter as setter_name}
use Rattle.c_writer.specs.Objects.{new_object, old_object, save_name, step_name, argument_name}
use Rattle.c_writer.specs.Tables.{variable_stmts}

-- the numbers of the variables
abbrev pub variables_of : Data → List ℕ
variables_of spec = range_with_len 0 (length spec.variables)

-- ---- objects

-- an object begins with the initial code
abbrev pub object_item : (ℕ → List ℕ) → Codes → ℕ → CItem
object_item object first v = Object (record { name = object v; init = code_of first v })

abbrev pub objects_of : Data → Codes → List CItem
objects_of spec first = map (object_item (new_object spec) first) (variables_of spec) ++ map (object_item (old_object spec) first) (variables_of spec)

-- ---- functions

-- what is new becomes old
abbrev pub save_stmt : Data → ℕ → CStmt
save_stmt spec v = Assign (old_object spec v) (Name (new_object spec v))

abbrev pub save_function : Data → CFunction
save_function spec = record { name = save_name; parameter = None; body = map (save_stmt spec) (variables_of spec) }

-- the dependent variables take their new codes in order
abbrev pub step_function : Data → List ℕ → CFunction
step_function spec order = record { name = step_name; parameter = None; body = flat_map (variable_stmts spec) order }

-- one input
abbrev pub setter : Data → ℕ → CFunction
setter spec x = record {
  name = setter_name (variable_name spec x);
  parameter = Some argument_name;
  body = Call save_name None ∷ Assign (new_object spec x) (Name argument_name) ∷ Call step_name None ∷ [];
}

abbrev pub setter_item : Data → ℕ → CItem
setter_item spec x = Function (setter spec x)

abbrev pub setters : Data → List CItem
setters spec = map (setter_item spec) (filter (is_monitored spec) (variables_of spec))

-- ---- the unit

-- by the order of the dependent variables and the initial codes
abbrev pub unit_of : Data → List ℕ → Codes → CUnit
unit_of spec order first = record {
  items = objects_of spec first ++ Function (save_function spec) ∷ Function (step_function spec order) ∷ setters spec;
}
