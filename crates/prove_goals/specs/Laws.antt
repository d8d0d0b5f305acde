-- Laws of related pairs and of goals.
use Rattle.std.specs.Prelude.{◌≡◌, ◌↔◌, ℕ, true, List, Some}
use Rattle.std.specs.List.{All}
use Rattle.scr_spec.specs.Data.{Data}
use Rattle.scr_spec.specs.declared.table.Table.{Table}
use Rattle.scr_spec.specs.Sound.{IsSound}
use Rattle.scr_spec.specs.Meaning.{Codes}
use Rattle.scr_spec.specs.Relations.{table_of}
use Rattle.dd_formula.specs.Measure.{all_atoms}
use Rattle.scr_depend.specs.Dependencies.{graph_of}
use Rattle.scr_depend.specs.Orders.{IsOrder}
use Rattle.scr_depend.specs.Needs.{IsNeed}
use Rattle.scr_depend.specs.Related.{HasNoBounds, IsRelated, IsRelatedFreely}
use Rattle.scr_depend.specs.Meets.{MeetsChecks}
use Rattle.prove_goals.specs.Goals.{goals_of}
use Rattle.prove_goals.specs.Formulas.{goal_formula_of}
use Rattle.prove_formula.specs.Solutions.{IsSolution, HasNoSolution}
use Rattle.prove_goals.specs.Violated.{is_told, levels_pass, IsViolatedAt, IsShown}

-- without NAT lines the related pairs with and without bounds are the same
pub record SameUnbounded : Type 0 where
  pub same : (spec : Data) → HasNoBounds spec → (v : ℕ) (old new : Codes) → IsRelated spec v old new ↔ IsRelatedFreely spec v old new

-- no formula of a goal has a solution exactly where the table is disjoint, covering where that is required, and in range
pub record GoalsDecide : Type 0 where
  pub decide : (spec : Data) (order need : List ℕ) (v : ℕ) (table : Table) → IsSound spec → IsOrder (graph_of spec) order → IsNeed (graph_of spec) v need → table_of spec v ≡ Some table
      → All (λ g. HasNoSolution spec (goal_formula_of spec order need v g)) (goals_of spec v) ↔ MeetsChecks spec table

-- each solution of the formula of a goal shows a pair at which that goal is not met, at each level that the formula has;
-- and each pair at which the goal is not met is a solution
pub record GoalsTell : Type 0 where
  pub shown : (spec : Data) (order need : List ℕ) (v : ℕ) (table : Table) → IsSound spec → IsOrder (graph_of spec) order → IsNeed (graph_of spec) v need → table_of spec v ≡ Some table
      → All (λ g. (s t : Codes) → IsSolution spec (goal_formula_of spec order need v g) s t → IsShown spec table g s t) (goals_of spec v)
  pub solved : (spec : Data) (order need : List ℕ) (v : ℕ) (table : Table) → IsOrder (graph_of spec) order → IsNeed (graph_of spec) v need → table_of spec v ≡ Some table
      → All (λ g. (s t : Codes) → IsViolatedAt spec table g s t → IsSolution spec (goal_formula_of spec order need v g) s t) (goals_of spec v)
  pub levels : (spec : Data) (order need : List ℕ) (v : ℕ) → All (λ g. all_atoms (levels_pass (is_told spec g.changed)) (goal_formula_of spec order need v g) ≡ true) (goals_of spec v)
