-- The formula of a goal, true exactly of its violations.
use Rattle.std.specs.Prelude.{◌≡◌, ℕ, ◌-◌, false, Option, Some, None, List, [], ◌∷◌, ◌++◌, map, slice_get}
use Rattle.std.specs.Option.{option_map_or}
use Rattle.scr_spec.specs.Data.{Data}
use Rattle.scr_spec.specs.declared.table.Row.{Row}
use Rattle.scr_spec.specs.declared.table.Table.{Table}
use Rattle.scr_spec.specs.Domains.{domain_of}
use Rattle.scr_spec.specs.Relations.{table_of}
use Rattle.dd_formula.specs.declared.formula.Formula.{Formula}
use Rattle.dd_formula.specs.declared.formula.Formula.TheVariants.{False, And}
use Rattle.dd_formula.specs.Joined.{all_of}
use Rattle.prove_formula.specs.Tables.{hold_formula}
use Rattle.prove_formula.specs.Violations.{gap_formula, outside_formula}
use Rattle.prove_formula.specs.Frozen.{frozen}
use Rattle.scr_depend.specs.Dependencies.{graph_of}
use Rattle.scr_depend.specs.Needs.{IsNeed}
use Rattle.prove_goals.specs.declared.goal.GoalKind.{GoalKind}
use Rattle.prove_goals.specs.declared.goal.GoalKind.TheVariants.{Disjoint, Cover, Range}
use Rattle.prove_goals.specs.declared.goal.Goal.{Goal}
use Rattle.prove_goals.specs.Pairs.{pair_formulas}

-- ---- goals, by the places of the row and the columns, from 0

-- what is not there holds nowhere
abbrev pub at_row : Table → ℕ → (Row → Formula) → Formula
at_row table row f = option_map_or f (slice_get table.rows row) False

-- the cell holds; a condition table is read in the old state
abbrev pub held : Data → Table → ℕ → ℕ → Formula
held spec table row column = at_row table row (λ r. hold_formula spec table false r column)

-- the value of the cell is outside the domain of the variable
abbrev pub outside : Data → Table → ℕ → ℕ → Formula
outside spec table row column = at_row table row (λ r. outside_formula spec table false r column (domain_of spec table.variable))

-- what is wrong: two cells hold; the class has a mode of the row and no condition is true; a cell holds with a value outside
abbrev pub violation : Data → Table → GoalKind → ℕ → ℕ → ℕ → List Formula
violation spec table Disjoint row i j = held spec table row i ∷ held spec table row j ∷ []
violation spec table Cover row i j = at_row table row (gap_formula spec table) ∷ []
violation spec table Range row i j = held spec table row i ∷ outside spec table row i ∷ []

-- in a state; or at a related pair in which x changed, where no other monitored variable has a new level
abbrev pub violated : Data → List ℕ → List ℕ → List Formula → Option ℕ → Formula
violated spec order need wrong None = all_of wrong
violated spec order need wrong (Some x) = frozen spec x (And (wrong ++ pair_formulas spec order need x))

-- the two parts of that, with the levels replaced: what is wrong in a goal of a table; and that the pair is related, which
-- the goals of one changed variable have in common
abbrev pub wrong_where : Data → Table → Goal → ℕ → List Formula
wrong_where spec table g x = map (frozen spec x) (violation spec table g.kind (g.row - 1) (g.first - 1) (g.second - 1))

abbrev pub related_where : Data → List ℕ → List ℕ → ℕ → List Formula
related_where spec order need x = map (frozen spec x) (pair_formulas spec order need x)

abbrev pub table_goal_formula : Data → List ℕ → List ℕ → Table → Goal → Formula
table_goal_formula spec order need table g =
    violated spec order need (violation spec table g.kind (g.row - 1) (g.first - 1) (g.second - 1)) g.changed

-- the formula of a goal of v, for the order and the list of what v needs
abbrev pub goal_formula_of : Data → List ℕ → List ℕ → ℕ → Goal → Formula
goal_formula_of spec order need v g = option_map_or (λ t. table_goal_formula spec order need t g) (table_of spec v) False

-- for the list of what v needs
pub record IsGoalFormula (spec : Data) (order : List ℕ) (v : ℕ) (g : Goal) (f : Formula) : Type 0 where
  pub need : List ℕ
  pub needed : IsNeed (graph_of spec) v need
  pub formula : f ≡ goal_formula_of spec order need v g
