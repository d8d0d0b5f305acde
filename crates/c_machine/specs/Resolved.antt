-- A unit in which objects and functions go by number.
use Rattle.std.specs.Prelude.{ℕ, cond, List, [], ◌∷◌, ◌++◌, fold, map, Option, Some, None, is_some}
use Rattle.std.specs.Option.{option_map, option_and_then}
use Rattle.std.specs.Str.{bytes_eq}
use Rattle.c_subset.specs.declared.expr.CExpr.{CExpr}
use Rattle.c_subset.specs.declared.expr.CExpr.TheOpen as layer
use Rattle.c_subset.specs.declared.stmt.CStmt.{CStmt}
use Rattle.c_subset.specs.declared.stmt.CStmt.TheOpen as block
use Rattle.c_subset.specs.declared.unit.CFunction.{CFunction}
use Rattle.c_subset.specs.Parts.{Term, Clause, of_expr, of_stmt}
use Rattle.c_subset.specs.Meaning.{place_of}
use Rattle.c_machine.specs.declared.code.Value.{Value}
use Rattle.c_machine.specs.declared.code.Value.TheVariants as v
use Rattle.c_machine.specs.declared.code.Part.{Part}
use Rattle.c_machine.specs.declared.code.Action.{Action}
use Rattle.c_machine.specs.declared.code.Action.TheVariants as a
use Rattle.c_machine.specs.declared.code.Case.{Case}
use Rattle.c_machine.specs.declared.code.Routine.{Routine}
use Rattle.c_machine.specs.declared.code.Resolved.{Resolved}
use Rattle.c_subset.specs.Statements.{Calls}
use Rattle.c_machine.specs.Last.{last_place}
use Rattle.c_machine.specs.Actions.{Reply, reply_at}

-- ---- expressions

abbrev pub at_place : Option ℕ → Value
at_place None = v.Unknown
at_place (Some i) = v.Object i

-- the parameter of that name, or else the object of that name
abbrev pub name_resolved : List (List ℕ) → Option (List ℕ) → List ℕ → Value
name_resolved objects None name = at_place (place_of objects name)
name_resolved objects (Some p) name = cond (bytes_eq p name) v.Parameter (at_place (place_of objects name))

abbrev pub part_of : Term Value → Part
part_of t = record { minus = t.minus; value = t.value }

abbrev pub expr_step : List (List ℕ) → Option (List ℕ) → layer.CExpr-F Value (Term Value) → Value
expr_step objects parameter (layer.Constant k) = v.Constant k
expr_step objects parameter (layer.Name n) = name_resolved objects parameter n
expr_step objects parameter (layer.Minus x) = v.Minus x
expr_step objects parameter (layer.Not x) = v.Not x
expr_step objects parameter (layer.Product xs) = v.Product xs
expr_step objects parameter (layer.Sum ts) = v.Sum (map part_of ts)
expr_step objects parameter (layer.Relate x relation y) = v.Relate x relation y
expr_step objects parameter (layer.And xs) = v.And xs
expr_step objects parameter (layer.Or xs) = v.Or xs

-- the expression, where the objects and the parameter have these names
abbrev pub expr_resolved : List (List ℕ) → Option (List ℕ) → CExpr → Value
expr_resolved objects parameter e = of_expr Value (expr_step objects parameter) e

-- ---- statements

abbrev pub assign_resolved : Option ℕ → Value → Action
assign_resolved None x = a.Unknown
assign_resolved (Some i) x = a.Assign i x

abbrev pub call_resolved : Option ℕ → Option Value → Action
call_resolved None x = a.Unknown
call_resolved (Some k) x = a.Call k x

abbrev pub case_of : Clause Action → Case
case_of c = record { label = c.label; body = c.body; stops = c.stops }

abbrev pub stmt_step : List (List ℕ) → List (List ℕ) → Option (List ℕ) → block.CStmt-F Action (Clause Action) → Action
stmt_step objects functions parameter (block.Assign n x) = assign_resolved (place_of objects n) (expr_resolved objects parameter x)
stmt_step objects functions parameter (block.If x xs ys) = a.If (expr_resolved objects parameter x) xs ys
stmt_step objects functions parameter (block.Call n x) = call_resolved (last_place functions n) (option_map (expr_resolved objects parameter) x)
stmt_step objects functions parameter (block.Switch x cs) = a.Switch (expr_resolved objects parameter x) (map case_of cs)

-- the statement, where the objects, the functions before it and the parameter have these names
abbrev pub stmt_resolved : List (List ℕ) → List (List ℕ) → Option (List ℕ) → CStmt → Action
stmt_resolved objects functions parameter s = of_stmt Action (stmt_step objects functions parameter) s

-- ---- functions

abbrev pub routine_of : List (List ℕ) → List (List ℕ) → CFunction → Routine
routine_of objects functions f = record { takes = is_some f.parameter; body = map (stmt_resolved objects functions f.parameter) f.body }

-- no functions
abbrev pub no_routines : Resolved
no_routines = record { names = []; routines = [] }

-- one more function, which calls those before it
abbrev pub with_routine : List (List ℕ) → Resolved → CFunction → Resolved
with_routine objects r f = record { names = r.names ++ f.name ∷ []; routines = r.routines ++ routine_of objects r.names f ∷ [] }

abbrev pub resolved : List (List ℕ) → List CFunction → Resolved
resolved objects functions = fold (with_routine objects) no_routines functions

-- a call by name, where the functions have these names and do this
abbrev pub by_name : List (List ℕ) → List Reply → Calls
by_name functions replies name argument row = option_and_then (λ k. reply_at replies k argument row) (last_place functions name)
