-- The lists of what a variable needs, in the laws of the calls.
use Rattle.std.proofs.Common.{◌≡◌, ℕ, List}
use Rattle.scr_spec.specs.Data.{Data}
use Rattle.dd_formula.specs.declared.formula.Formula.{Formula}
use Rattle.scr_depend.specs.Dependencies.{graph_of}
use Rattle.scr_depend.specs.Needs.{IsNeed}
use Rattle.prove_goals.specs.declared.goal.Goal.{Goal}
use Rattle.prove_goals.specs.Pairs.{pair_formulas, ArePairs}
use Rattle.prove_goals.specs.Formulas.{goal_formula_of, IsGoalFormula}

pub are_pairs : (spec : Data) (order : List ℕ) (v x : ℕ) (need : List ℕ) (fs : List Formula) → IsNeed (graph_of spec) v need → fs ≡ pair_formulas spec order need x → ArePairs spec order v x fs
are_pairs spec order v x need fs needed e = record { need = need; needed = needed; formulas = e }

pub is_goal_formula : (spec : Data) (order : List ℕ) (v : ℕ) (g : Goal) (need : List ℕ) (f : Formula) → IsNeed (graph_of spec) v need → f ≡ goal_formula_of spec order need v g → IsGoalFormula spec order v g f
is_goal_formula spec order v g need f needed e = record { need = need; needed = needed; formula = e }
