-- Laws of verdicts.
use Rattle.std.specs.Prelude.{◌≡◌, ℕ, ◌*◌, ◌<◌, List, [], ◌∷◌, Some, length, map, slice_get}
use Rattle.std.specs.List.{filter, range_with_len}
use Rattle.scr_spec.specs.Data.{Data}
use Rattle.scr_spec.specs.declared.table.Table.{Table}
use Rattle.scr_spec.specs.Meaning.{Codes}
use Rattle.scr_spec.specs.Relations.{table_of}
use Rattle.scr_spec.specs.Sound.{IsSound}
use Rattle.dd_formula.specs.declared.formula.Formula.{Formula}
use Rattle.scr_depend.specs.Dependencies.{graph_of}
use Rattle.scr_depend.specs.Orders.{IsOrder}
use Rattle.scr_depend.specs.Needs.{IsNeed}
use Rattle.scr_depend.specs.Meets.{MeetsChecks}
use Rattle.prove_goals.specs.declared.goal.Goal.{Goal}
use Rattle.prove_goals.specs.Goals.{goals_of}
use Rattle.prove_goals.specs.Formulas.{goal_formula_of}
use Rattle.prove_goals.specs.Violated.{IsViolatedAt}
use Rattle.prove_decide.specs.declared.witness.Witness.{Witness}
use Rattle.prove_tables.specs.declared.verdict.Verdict.{Verdict}
use Rattle.prove_tables.specs.declared.verdict.Verdict.TheVariants.{Yes, No, Undecided}
use Rattle.prove_decide.specs.Readings.{occurs}
use Rattle.prove_decide.specs.Pairs.{pair_reading, IsPairBefore}
use Rattle.prove_tables.specs.Verdicts.{HasVerdict, AreVerdicts}

-- a table has at most one verdict
pub record OneVerdict : Type 0 where
  pub once : (spec : Data) (order : List ℕ) (v limit : ℕ) (a b : Verdict) → HasVerdict spec order v limit a → HasVerdict spec order v limit b → a ≡ b

-- each table has a verdict, and a specification has one list of verdicts, and never none
pub record SomeVerdict : Type 0 where
  pub some : (spec : Data) (order : List ℕ) (v limit : ℕ) → ((verdict : Verdict) → HasVerdict spec order v limit verdict → ⊥) → ⊥
  pub all_once : (spec : Data) (order : List ℕ) (limit : ℕ) (a b : List Verdict) → AreVerdicts spec order limit a → AreVerdicts spec order limit b → a ≡ b
  pub all_some : (spec : Data) (order : List ℕ) (limit : ℕ) → ((verdicts : List Verdict) → AreVerdicts spec order limit verdicts → ⊥) → ⊥

-- the witness shows a pair at which the goal is not met: the codes of the levels that occur in the goal's formula; no pair
-- at which the goal is not met comes before it
pub record IsWitnessOf (spec : Data) (table : Table) (goal : Goal) (f : Formula) (w : Witness) : Type 0 where
  pub old : Codes
  pub new : Codes
  pub violated : IsViolatedAt spec table goal old new
  pub least : (s t : Codes) → IsViolatedAt spec table goal s t → IsPairBefore f s t old new → ⊥
  pub shown : w.readings ≡ map (pair_reading old new) (filter (λ level. occurs level f) (range_with_len 0 (2 * length spec.variables)))

-- the goal is one of the list, and each goal before it is met at each pair at which the table is judged
pub record IsFirstNotMet (spec : Data) (table : Table) (goals : List Goal) (goal : Goal) : Type 0 where
  pub number : ℕ
  pub there : slice_get goals number ≡ Some goal
  pub before : (k : ℕ) (g : Goal) → k < number → slice_get goals k ≡ Some g → (old new : Codes) → IsViolatedAt spec table g old new → ⊥

-- with a no: the goal is the first of the table that is not met somewhere, and the witness shows the least state, or
-- related pair of states, at which it is not
pub record IsRightNo (spec : Data) (order : List ℕ) (table : Table) (goal : Goal) (w : Witness) : Type 0 where
  pub need : List ℕ
  pub needed : IsNeed (graph_of spec) table.variable need
  pub first : IsFirstNotMet spec table (goals_of spec table.variable) goal
  pub least : IsWitnessOf spec table goal (goal_formula_of spec order need table.variable goal) w

-- what a verdict says of its table: with a yes it is disjoint, covering where that is required, and in range
abbrev pub IsRightVerdict : Data → List ℕ → Table → Verdict → Type 0
IsRightVerdict spec order table Yes = MeetsChecks spec table
IsRightVerdict spec order table (No goal w) = IsRightNo spec order table goal w
IsRightVerdict spec order table Undecided = Unit {0}

-- so for each table
abbrev pub AreRightVerdicts : Data → List ℕ → List Table → List Verdict → Type 0
AreRightVerdicts spec order [] [] = Unit {0}
AreRightVerdicts spec order [] (verdict ∷ verdicts) = ⊥
AreRightVerdicts spec order (table ∷ tables) [] = ⊥
AreRightVerdicts spec order (table ∷ tables) (verdict ∷ verdicts) = IsRightVerdict spec order table verdict × AreRightVerdicts spec order tables verdicts

-- with a yes the table is disjoint, covering where that is required, and in range; with a no the goal is the first that is
-- not met, and the witness shows the least pair at which it is not
pub record VerdictsTell : Type 0 where
  pub yes : (spec : Data) (order : List ℕ) (v limit : ℕ) (table : Table) → IsSound spec → IsOrder (graph_of spec) order → table_of spec v ≡ Some table → HasVerdict spec order v limit Yes
      → MeetsChecks spec table
  pub no : (spec : Data) (order need : List ℕ) (v limit : ℕ) (table : Table) (goal : Goal) (w : Witness) → IsSound spec → IsOrder (graph_of spec) order → IsNeed (graph_of spec) v need → table_of spec v ≡ Some table
      → HasVerdict spec order v limit (No goal w) → IsWitnessOf spec table goal (goal_formula_of spec order need v goal) w
  pub first : (spec : Data) (order : List ℕ) (v limit : ℕ) (table : Table) (goal : Goal) (w : Witness) → IsOrder (graph_of spec) order → table_of spec v ≡ Some table → HasVerdict spec order v limit (No goal w)
      → IsFirstNotMet spec table (goals_of spec v) goal
  pub all : (spec : Data) (order : List ℕ) (limit : ℕ) (verdicts : List Verdict) → IsSound spec → IsOrder (graph_of spec) order → AreVerdicts spec order limit verdicts → AreRightVerdicts spec order spec.tables verdicts
