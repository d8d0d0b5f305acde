-- Each atom of the formula of a goal has levels of the specification, and a small measure.
use Rattle.std.proofs.Common.{◌≡◌, ℕ, true, false, List, ◌++◌, Option, Some, None, refl, ◌∙◌, IsTrue}
use Rattle.std.specs.Prelude.{slice_get, IfOk, Result, Ok, Err}
use Rattle.std.specs.Option.{option_map_or}
use Rattle.std.proofs.lemmas.Bool.{and_from}
use Rattle.std.proofs.lemmas.List.Folds.{list_all-append}
use Rattle.base.specs.declared.memory.NoMemory.{NoMemory}
use Rattle.scr_spec.specs.Data.{Data}
use Rattle.scr_spec.specs.declared.table.Row.{Row}
use Rattle.scr_spec.specs.declared.table.Table.{Table}
use Rattle.scr_spec.specs.Sound.{IsSound}
use Rattle.scr_spec.specs.Domains.{domain_of}
use Rattle.scr_spec.specs.Cells.{is_row_over, is_table_over}
use Rattle.scr_spec.specs.Relations.{table_of}
use Rattle.scr_spec.proofs.Lookup.{all_get}
use Rattle.scr_spec.proofs.Found.{table_over}
use Rattle.dd_formula.specs.declared.formula.Formula.{Formula}
use Rattle.dd_formula.specs.declared.formula.Formula.TheVariants as made
use Rattle.prove_formula.specs.Measure.{greatest_measure, is_atom_over, IsOver}
use Rattle.dd_formula.specs.Measure.{all_atoms}
use Rattle.prove_formula.specs.Tables.{hold_formula}
use Rattle.prove_formula.specs.Violations.{gap_formula, outside_formula}
use Rattle.dd_formula.proofs.FormulaLaws.{all_atoms-False, all_atoms-And}
use Rattle.prove_formula.proofs.ConditionMeasure.{over_all_of}
use Rattle.prove_formula.proofs.TableMeasure.{table_parts, over_hold_formula}
use Rattle.prove_formula.proofs.ViolationMeasure.{over_gap_formula, over_outside_formula}
use Rattle.prove_formula.proofs.FrozenLaws.{frozen_bounds}
use Rattle.prove_goals.specs.declared.goal.GoalKind.{GoalKind}
use Rattle.prove_goals.specs.declared.goal.GoalKind.TheVariants.{Disjoint, Cover, Range}
use Rattle.prove_goals.specs.declared.goal.Goal.{Goal}
use Rattle.prove_goals.specs.Pairs.{pair_formulas, AreOver}
use Rattle.prove_goals.specs.Goals.{is_change_over, is_goal_over}
use Rattle.prove_goals.specs.Formulas.{held, violation, violated, table_goal_formula, goal_formula_of}
use Rattle.prove_goals.proofs.Narrow.{variable_ends}
use Rattle.prove_goals.proofs.PairMeasure.{pairs_over}

-- what is not there is False
over_row : (spec : Data) (table : Table) (row : ℕ) (f : Row → Formula) (o : Option Row) → slice_get table.rows row ≡ o → IsTrue (is_table_over spec table)
    → ((r : Row) → IsTrue (is_row_over spec r) → IsOver spec (f r)) → IsOver spec (option_map_or f o made.False)
over_row spec table row f None e h each = all_atoms-False (is_atom_over spec)
over_row spec table row f (Some r) e h each = each r (all_get (is_row_over spec) table.rows row r ((table_parts spec table h).1) e)

over_held : (spec : Data) → IsSound spec → (table : Table) (row i : ℕ) → IsTrue (is_table_over spec table) → IsOver spec (held spec table row i)
over_held spec sound table row i h = over_row spec table row (λ r. hold_formula spec table false r i) (slice_get table.rows row) refl h (λ r k. over_hold_formula spec sound table false r i h k)

pub over_violation : (spec : Data) → IsSound spec → (table : Table) (kind : GoalKind) (row i j : ℕ) → IsTrue (is_table_over spec table) → AreOver spec (violation spec table kind row i j)
over_violation spec sound table Disjoint row i j h = and_from _ _ (over_held spec sound table row i h) (and_from _ true (over_held spec sound table row j h) refl)
over_violation spec sound table Cover row i j h =
    and_from _ true (over_row spec table row (gap_formula spec table) (slice_get table.rows row) refl h (λ r k. over_gap_formula spec sound table r h k)) refl
over_violation spec sound table Range row i j h =
    let d = domain_of spec table.variable in
    let ends = variable_ends spec table.variable sound in
    and_from _ _ (over_held spec sound table row i h)
    (and_from _ true
    (over_row spec table row (λ r. outside_formula spec table false r i d) (slice_get table.rows row) refl h (λ r k. over_outside_formula spec table false r i d h k ends.0 ends.1))
    refl)

over_violated : (spec : Data) (order need : List ℕ) (wrong : List Formula) (c : Option ℕ) → IsSound spec → IsTrue (is_change_over spec c) → AreOver spec wrong → IsOver spec (violated spec order need wrong c)
over_violated spec order need wrong None sound m k = over_all_of spec wrong k
over_violated spec order need wrong (Some x) sound m k =
    let pairs = pair_formulas spec order need x in
    let all : IsOver spec (made.And (wrong ++ pairs)) = all_atoms-And (is_atom_over spec) _ ∙ list_all-append (all_atoms (is_atom_over spec)) wrong pairs ∙ and_from _ _ k (pairs_over spec order need x sound m) in
    frozen_bounds spec x (made.And (wrong ++ pairs)) greatest_measure ∙ all

over_found : (spec : Data) (order need : List ℕ) (v : ℕ) (g : Goal) (o : Option Table) → table_of spec v ≡ o → IsSound spec → IsTrue (is_goal_over spec g)
    → IsOver spec (option_map_or (λ t. table_goal_formula spec order need t g) o made.False)
over_found spec order need v g None e sound m = all_atoms-False (is_atom_over spec)
over_found spec order need v g (Some table) e sound m = over_violated spec order need _ g.changed sound m (over_violation spec sound table g.kind _ _ _ (table_over spec v table sound e))

-- the law of the call
pub goal_over_ok : (spec : Data) (order need : List ℕ) (v : ℕ) (g : Goal) (r : Result Formula NoMemory) → IsSound spec → IsTrue (is_goal_over spec g)
    → IfOk r (λ f. f ≡ goal_formula_of spec order need v g) → IfOk r (λ f. IsOver spec f)
goal_over_ok spec order need v g (Ok f) sound m h = rw h (over_found spec order need v g (table_of spec v) refl sound m)
goal_over_ok spec order need v g (Err e) sound m h = h
