-- The verdict on an assertion.
use Rattle.std.specs.Prelude.{◌≡◌, ℕ, false, IsTrue, List, [], ◌∷◌, length, Some, slice_get}
use Rattle.scr_spec.specs.Data.{Data}
use Rattle.scr_spec.specs.Meaning.{Codes, is_true}
use Rattle.run_step.specs.Runs.{IsInitial}
use Rattle.prove_decide.specs.declared.decision.Decision.TheVariants.{Over, Unsatisfiable, Satisfied}
use Rattle.prove_decide.specs.declared.witness.Witness.{Witness}
use Rattle.prove_decide.specs.Levels.{level_domains}
use Rattle.prove_decide.specs.Alone.{IsDecided}
use Rattle.prove_goals.specs.Goals.{monitored_variables}
use Rattle.scr_resolve_asserts.specs.declared.assertion.Assertion.{Assertion}
use Rattle.prove_asserts.specs.declared.lemma.Lemma.{Lemma}
use Rattle.prove_asserts.specs.declared.verdict.AssertVerdict.{AssertVerdict}
use Rattle.prove_asserts.specs.declared.verdict.AssertVerdict.TheVariants.{Yes, FalseInitial, Unproved, Undecided}
use Rattle.prove_asserts.specs.Formulas.{test_formula}

-- the tests of these changes, each with a listing and a count of its own; the first that is not passed decides
pub data AreTested (spec : Data) (order : List ℕ) (lemmas : List Lemma) (limit : ℕ) (a : Assertion) : List ℕ → AssertVerdict → Type 0 where
  all_passed : AreTested spec order lemmas limit a [] Yes
  passed : {x : ℕ} {xs : List ℕ} {verdict : AssertVerdict} → IsDecided (level_domains spec) limit (test_formula spec order lemmas a x) Unsatisfiable
      → AreTested spec order lemmas limit a xs verdict → AreTested spec order lemmas limit a (x ∷ xs) verdict
  satisfied : {x : ℕ} {xs : List ℕ} {w : Witness} → IsDecided (level_domains spec) limit (test_formula spec order lemmas a x) (Satisfied w) → AreTested spec order lemmas limit a (x ∷ xs) (Unproved w)
  past : {x : ℕ} {xs : List ℕ} → IsDecided (level_domains spec) limit (test_formula spec order lemmas a x) Over → AreTested spec order lemmas limit a (x ∷ xs) Undecided

-- a one-state assertion is true at first
abbrev pub HoldsAtFirst : Data → Codes → Assertion → Type 0
HoldsAtFirst spec first a = a.two ≡ false → IsTrue (is_true spec first a.cond)

-- by the tests of these changes; a one-state assertion that is false at first is not tested
pub data IsJudgedFrom (spec : Data) (order : List ℕ) (lemmas : List Lemma) (limit : ℕ) (first : Codes) (xs : List ℕ) (a : Assertion) : AssertVerdict → Type 0 where
  false_at_first : a.two ≡ false → is_true spec first a.cond ≡ false → IsJudgedFrom spec order lemmas limit first xs a FalseInitial
  tested : {verdict : AssertVerdict} → HoldsAtFirst spec first a → AreTested spec order lemmas limit a xs verdict → IsJudgedFrom spec order lemmas limit first xs a verdict

-- from the initial state on, by those of all monitored variables in order of declaration
pub record IsJudged (spec : Data) (order : List ℕ) (lemmas : List Lemma) (limit : ℕ) (a : Assertion) (verdict : AssertVerdict) : Type 0 where
  pub first : Codes
  pub initial : IsInitial spec first
  pub judged : IsJudgedFrom spec order lemmas limit first (monitored_variables spec) a verdict

-- one verdict for each assertion, in order
pub record HasEach (P : Assertion → AssertVerdict → Type 0) (assertions : List Assertion) (verdicts : List AssertVerdict) : Type 0 where
  pub one_each : length verdicts ≡ length assertions
  pub each : (i : ℕ) (a : Assertion) (verdict : AssertVerdict) → slice_get assertions i ≡ Some a → slice_get verdicts i ≡ Some verdict → P a verdict

abbrev pub AreJudged : Data → List ℕ → List Lemma → ℕ → List Assertion → List AssertVerdict → Type 0
AreJudged spec order lemmas limit assertions verdicts = HasEach (IsJudged spec order lemmas limit) assertions verdicts
