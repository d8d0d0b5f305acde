-- The verdict on a table: on the formulas of its goals in order, with a limit on their distinct splits.
use Rattle.std.specs.Prelude.{◌≡◌, ℕ, List, [], ◌∷◌, map, slice_get, Some}
use Rattle.dd_formula.specs.declared.domain.Domain.{Domain}
use Rattle.dd_formula.specs.declared.formula.Formula.{Formula}
use Rattle.scr_spec.specs.declared.table.Table.{Table}
use Rattle.scr_spec.specs.Data.{Data}
use Rattle.scr_depend.specs.Dependencies.{graph_of}
use Rattle.scr_depend.specs.Needs.{IsNeed}
use Rattle.prove_goals.specs.declared.goal.Goal.{Goal}
use Rattle.prove_goals.specs.Goals.{goals_of}
use Rattle.prove_goals.specs.Formulas.{goal_formula_of}
use Rattle.prove_tables.specs.declared.verdict.Verdict.{Verdict}
use Rattle.prove_tables.specs.declared.verdict.Verdict.TheVariants.{Yes, No, Undecided}
use Rattle.prove_decide.specs.declared.witness.Witness.{Witness}
use Rattle.prove_decide.specs.Levels.{level_domains}
use Rattle.prove_decide.specs.InTurn.{AllPass, FailsAt, PassesLimit}

-- the goal with this witness is the first to fail
pub record FailsFirst (ds : List Domain) (limit : ℕ) (goals : List Goal) (formula : Goal → Formula) (goal : Goal) (w : Witness) : Type 0 where
  pub number : ℕ
  pub there : slice_get goals number ≡ Some goal
  pub fails : FailsAt ds limit (map formula goals) number w

-- the verdict on goals with these formulas
abbrev pub IsVerdict : List Domain → ℕ → List Goal → (Goal → Formula) → Verdict → Type 0
IsVerdict ds limit goals formula Yes = AllPass ds limit (map formula goals)
IsVerdict ds limit goals formula (No goal w) = FailsFirst ds limit goals formula goal w
IsVerdict ds limit goals formula Undecided = PassesLimit ds limit (map formula goals)

-- the verdict on the table of v, which is counted by itself
pub record HasVerdict (spec : Data) (order : List ℕ) (v limit : ℕ) (verdict : Verdict) : Type 0 where
  pub need : List ℕ
  pub needed : IsNeed (graph_of spec) v need
  pub verdict_is : IsVerdict (level_domains spec) limit (goals_of spec v) (goal_formula_of spec order need v) verdict

-- one verdict for each table, in order
abbrev pub HaveVerdicts : Data → List ℕ → ℕ → List Table → List Verdict → Type 0
HaveVerdicts spec order limit [] [] = Unit {0}
HaveVerdicts spec order limit [] (verdict ∷ verdicts) = ⊥
HaveVerdicts spec order limit (table ∷ tables) [] = ⊥
HaveVerdicts spec order limit (table ∷ tables) (verdict ∷ verdicts) = HasVerdict spec order table.variable limit verdict × HaveVerdicts spec order limit tables verdicts

-- the verdicts on all tables, in the order of the text
abbrev pub AreVerdicts : Data → List ℕ → ℕ → List Verdict → Type 0
AreVerdicts spec order limit verdicts = HaveVerdicts spec order limit spec.tables verdicts
