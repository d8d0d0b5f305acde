-- The formula of a goal for which a variable changed, in two parts.
use Rattle.std.proofs.Common.{◌≡◌, ℕ, ◌-◌, ◌+◌, ◌<◌, List, [], ◌∷◌, ◌++◌, length, map, take, get_or, Option, Some, refl, sym, ap, subst, ◌∙◌, arith, IsTrue, IfOk, Result, Ok, Err}
use Rattle.std.specs.List.{list_all}
use Rattle.std.specs.Option.{option_map_or}
use Rattle.std.proofs.lemmas.Bool.{and_parts, and_from}
use Rattle.std.proofs.lemmas.List.{map-append, take_more}
use Rattle.base.specs.declared.memory.NoMemory.{NoMemory}
use Rattle.scr_spec.specs.Data.{Data}
use Rattle.scr_spec.specs.declared.table.Table.{Table}
use Rattle.scr_spec.specs.Sound.{IsSound}
use Rattle.scr_spec.specs.Cells.{is_table_over}
use Rattle.scr_spec.specs.Relations.{table_of, is_monitored}
use Rattle.dd_formula.specs.declared.formula.Formula.{Formula}
use Rattle.dd_formula.specs.declared.formula.Formula.TheVariants.{False, And}
use Rattle.dd_formula.specs.Measure.{all_atoms}
use Rattle.prove_formula.specs.Measure.{greatest_measure, is_atom_over}
use Rattle.prove_formula.specs.Frozen.{frozen}
use Rattle.prove_formula.proofs.FrozenLaws.{frozen-And, frozen_bounds}
use Rattle.prove_goals.specs.declared.goal.Goal.{Goal}
use Rattle.prove_goals.specs.declared.goal.GoalKind.{GoalKind}
use Rattle.prove_goals.specs.declared.goal.GoalKind.TheVariants.{Disjoint, Cover, Range}
use Rattle.prove_goals.specs.Pairs.{pair_formulas, AreOver}
use Rattle.prove_goals.specs.Formulas.{violation, violated, wrong_where, related_where, table_goal_formula, goal_formula_of}
use Rattle.prove_goals.proofs.GoalMeasure.{over_violation}
use Rattle.prove_goals.proofs.PairMeasure.{pairs_over}

-- one formula more
pub one_more_frozen : (spec : Data) (x : ℕ) (fs : List Formula) (i : ℕ) (f : Formula) → i < length fs → f ≡ get_or fs i f → map (frozen spec x) (take i fs) ++ frozen spec x f ∷ [] ≡ map (frozen spec x) (take (i + 1) fs)
one_more_frozen spec x fs i f lt is =
    sym (map-append (frozen spec x) (take i fs) (f ∷ [])) ∙ ap (λ g. map (frozen spec x) (take i fs ++ g ∷ [])) is ∙ ap (map (frozen spec x)) (sym (take_more fs i f lt))

-- the bounds stay
all_over : (spec : Data) (x : ℕ) (fs : List Formula) → AreOver spec fs → AreOver spec (map (frozen spec x) fs)
all_over spec x [] h = refl
all_over spec x (f ∷ fs) h =
    let both = and_parts (all_atoms (is_atom_over spec) f) (list_all (all_atoms (is_atom_over spec)) fs) h in
    and_from _ _ (frozen_bounds spec x f greatest_measure ∙ both.0) (all_over spec x fs both.1)

pub wrong_over : (spec : Data) (table : Table) (g : Goal) (x : ℕ) (r : Result (List Formula) NoMemory) → IsSound spec → IsTrue (is_table_over spec table) → IfOk r (λ fs. fs ≡ wrong_where spec table g x) → IfOk r (AreOver spec)
wrong_over spec table g x (Ok fs) sound over e =
    subst (AreOver spec) (sym e) (all_over spec x (violation spec table g.kind (g.row - 1) (g.first - 1) (g.second - 1)) (over_violation spec sound table g.kind _ _ _ over))
wrong_over spec table g x (Err f) sound over e = e

pub related_over : (spec : Data) (order need : List ℕ) (x : ℕ) (r : Result (List Formula) NoMemory) → IsSound spec → IsTrue (is_monitored spec x) → IfOk r (λ fs. fs ≡ related_where spec order need x) → IfOk r (AreOver spec)
related_over spec order need x (Ok fs) sound m e = subst (AreOver spec) (sym e) (all_over spec x (pair_formulas spec order need x) (pairs_over spec order need x sound m))
related_over spec order need x (Err f) sound m e = e

-- something is wrong
violation_some : (spec : Data) (table : Table) (kind : GoalKind) (row i j : ℕ) (x : ℕ) → 0 < length (map (frozen spec x) (violation spec table kind row i j))
violation_some spec table Disjoint row i j x = omega arith
violation_some spec table Cover row i j x = omega arith
violation_some spec table Range row i j x = omega arith

pub wrong_some : (spec : Data) (table : Table) (g : Goal) (x : ℕ) → 0 < length (wrong_where spec table g x)
wrong_some spec table g x = violation_some spec table g.kind (g.row - 1) (g.first - 1) (g.second - 1) x

-- both parts are the formula
pub in_two_parts : (spec : Data) (order need : List ℕ) (v : ℕ) (table : Table) (g : Goal) (x : ℕ) → table_of spec v ≡ Some table → g.changed ≡ Some x
    → goal_formula_of spec order need v g ≡ And (wrong_where spec table g x ++ related_where spec order need x)
in_two_parts spec order need v table g x found changed =
    let wrong : List Formula = violation spec table g.kind (g.row - 1) (g.first - 1) (g.second - 1) in
    ap (λ (o : Option Table). option_map_or (λ t. table_goal_formula spec order need t g) o False) found
    ∙ ap (violated spec order need wrong) changed
    ∙ frozen-And spec x (wrong ++ pair_formulas spec order need x)
    ∙ ap And (map-append (frozen spec x) wrong (pair_formulas spec order need x))
