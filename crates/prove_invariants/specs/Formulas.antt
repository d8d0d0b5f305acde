-- The formula of the test of a candidate in which one monitored variable changes: true exactly where that breaks it.
use Rattle.std.specs.Prelude.{◌≡◌, ℕ, Bool, true, false, List, [], ◌∷◌, ◌++◌, map}
use Rattle.std.specs.List.{filter, flat_map}
use Rattle.scr_spec.specs.Data.{Data}
use Rattle.scr_spec.specs.Meaning.{Codes}
use Rattle.dd_formula.specs.declared.formula.Formula.{Formula}
use Rattle.dd_formula.specs.declared.formula.Formula.TheVariants.{Not, And, Or}
use Rattle.dd_formula.specs.Truth.{holds_at}
use Rattle.prove_formula.specs.Levels.{valuation_of, at_of}
use Rattle.prove_formula.specs.Conditions.{has_code, condition_formula}
use Rattle.prove_formula.specs.Tables.{relation_formula}
use Rattle.prove_formula.specs.Frozen.{frozen}
use Rattle.scr_depend.specs.Graphs.{is_among}
use Rattle.prove_goals.specs.Pairs.{need_formulas, change_formula}
use Rattle.prove_candidates.specs.declared.candidate.Candidate.{Candidate}
use Rattle.prove_invariants.specs.Holds.{holds_in}

-- the candidate holds in the new state, or in the old: the class has another mode, or the condition is true
abbrev pub candidate_formula : Data → Bool → ℕ → Candidate → Formula
candidate_formula spec new class c = Or (Not (has_code new class c.mode) ∷ condition_formula spec new c.cond ∷ [])

-- at the valuation of two states the formula is true exactly where the candidate holds in the state that is read
abbrev pub HasTruthOfCandidate : Data → Bool → ℕ → Candidate → Formula → Type 0
HasTruthOfCandidate spec new class c f = (s t : Codes) → holds_at (valuation_of s t) f ≡ holds_in spec class (at_of new s t) c

-- it holds before
abbrev pub before_formula : Data → ℕ → Candidate → Formula
before_formula spec class c = candidate_formula spec false class c

-- it does not hold after, and it holds before
abbrev pub own_formulas : Data → ℕ → Candidate → List Formula
own_formulas spec class c = has_code true class c.mode ∷ Not (condition_formula spec true c.cond) ∷ before_formula spec class c ∷ []

-- and so does all that is known
abbrev pub broken_formulas : Data → ℕ → List Candidate → Candidate → List Formula
broken_formulas spec class known c = own_formulas spec class c ++ map (before_formula spec class) known

-- what the class needs, for each variable of the order; then how the class moves; last that x changes
abbrev pub moved_formulas : Data → List ℕ → List ℕ → ℕ → ℕ → List Formula
moved_formulas spec order need class x = flat_map (need_formulas spec) (filter (is_among need) order) ++ relation_formula spec class ∷ change_formula spec x ∷ []

-- all of it, where no other monitored variable has a new level
abbrev pub test_formula : Data → List ℕ → List ℕ → ℕ → List Candidate → Candidate → ℕ → Formula
test_formula spec order need class known c x = frozen spec x (And (broken_formulas spec class known c ++ moved_formulas spec order need class x))
