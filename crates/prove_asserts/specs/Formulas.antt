-- The test of an assertion in which one monitored variable changes, as a formula: its members in order.
use Rattle.std.specs.Prelude.{ℕ, Bool, true, false, List, [], ◌∷◌, ◌++◌, map}
use Rattle.std.specs.List.{flat_map}
use Rattle.scr_spec.specs.Data.{Data}
use Rattle.scr_spec.specs.declared.cond.Cond.{Cond}
use Rattle.dd_formula.specs.declared.formula.Formula.{Formula}
use Rattle.dd_formula.specs.declared.formula.Formula.TheVariants.{Not, And}
use Rattle.prove_formula.specs.Conditions.{condition_formula, pair_formula}
use Rattle.prove_formula.specs.Frozen.{frozen}
use Rattle.prove_goals.specs.Pairs.{need_formulas, change_formula}
use Rattle.scr_resolve_asserts.specs.declared.assertion.Assertion.{Assertion}
use Rattle.prove_invariants.specs.Formulas.{candidate_formula}
use Rattle.prove_asserts.specs.declared.lemma.Lemma.{Lemma}

-- the assertion is broken: true before and not after, or not true between the states
abbrev pub broken_formulas : Data → Bool → Cond → List Formula
broken_formulas spec false c = Not (condition_formula spec true c) ∷ condition_formula spec false c ∷ []
broken_formulas spec true c = Not (pair_formula spec c) ∷ []

-- the candidates of a class hold, in the new state or in the old
abbrev pub lemma_formulas : Data → Bool → Lemma → List Formula
lemma_formulas spec new l = map (λ f. candidate_formula spec new l.class f.candidate) l.found

-- and of all classes
abbrev pub lemmas_formulas : Data → Bool → List Lemma → List Formula
lemmas_formulas spec new lemmas = flat_map (lemma_formulas spec new) lemmas

-- what is taken for granted holds before and after
abbrev pub known_formulas : Data → List Lemma → List Formula
known_formulas spec lemmas = lemmas_formulas spec false lemmas ++ lemmas_formulas spec true lemmas

-- the pair is a full one: every variable of the order meets its relation, and last x changes
abbrev pub full_formulas : Data → List ℕ → ℕ → List Formula
full_formulas spec order x = flat_map (need_formulas spec) order ++ change_formula spec x ∷ []

-- both, which no assertion makes different
abbrev pub common_formulas : Data → List ℕ → List Lemma → ℕ → List Formula
common_formulas spec order lemmas x = known_formulas spec lemmas ++ full_formulas spec order x

-- all of it, where no other monitored variable has a new level
abbrev pub test_formula : Data → List ℕ → List Lemma → Assertion → ℕ → Formula
test_formula spec order lemmas a x = frozen spec x (And (broken_formulas spec a.two a.cond ++ common_formulas spec order lemmas x))
