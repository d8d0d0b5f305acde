-- What all tests have in common, and how the judgement of assertions goes on, one changed variable after another.
use Rattle.std.specs.Prelude.{◌≡◌, ℕ, ◌≤◌, Bool, true, false, List, [], ◌∷◌, ◌++◌, map, IsTrue}
use Rattle.std.specs.List.{list_all}
use Rattle.scr_spec.specs.Data.{Data}
use Rattle.scr_spec.specs.Shown.{data_of}
use Rattle.scr_spec.specs.Over.{is_cond_over}
use Rattle.scr_spec.specs.Relations.{is_monitored}
use Rattle.dd_formula.specs.declared.formula.Formula.{Formula}
use Rattle.dd_formula.specs.declared.formula.Formula.TheVariants.{And}
use Rattle.dd_store.specs.declared.store.TheConstants.{SPLIT_LIMIT}
use Rattle.prove_formula.specs.Frozen.{frozen}
use Rattle.run_step.specs.Runs.{IsInitial}
use Rattle.prove_decide.specs.declared.decision.Decision.{Decision}
use Rattle.prove_decide.specs.declared.decision.Decision.TheVariants.{Over, Unsatisfiable, Satisfied}
use Rattle.prove_decide.specs.Levels.{level_domains}
use Rattle.prove_decide.specs.Alone.{IsDecided}
use Rattle.prove_goals.specs.Goals.{monitored_variables}
use Rattle.scr_resolve_asserts.specs.declared.assertion.Assertion.{Assertion}
use Rattle.prove_asserts.specs.declared.lemma.Lemma.{Lemma}
use Rattle.prove_asserts.specs.declared.verdict.AssertVerdict.{AssertVerdict}
use Rattle.prove_asserts.specs.declared.verdict.AssertVerdict.TheVariants.{Yes, FalseInitial, Unproved, Undecided}
use Rattle.prove_asserts.specs.declared.setting.Setting.{Setting}
use Rattle.prove_asserts.specs.declared.change.Change.{Change}
use Rattle.prove_asserts.specs.Claims.{AreLemmasOver}
use Rattle.prove_asserts.specs.Formulas.{common_formulas, test_formula}
use Rattle.prove_asserts.specs.Judged.{IsJudgedFrom, HasEach}

-- each is a condition over the specification
abbrev pub AreAssertionsOver : Data → List Assertion → Type 0
AreAssertionsOver spec assertions = IsTrue (list_all (λ a. is_cond_over spec a.cond) assertions)

-- ---- of all tests

abbrev pub spec_in : Setting → Data
spec_in s = data_of s.checked.now.spec

abbrev pub order_in : Setting → List ℕ
order_in s = s.checked.now.order.list

pub record IsSetUp (s : Setting) : Type 0 where
  pub limited : s.limit ≤ SPLIT_LIMIT
  pub over : AreLemmasOver (spec_in s) s.lemmas.now
  pub initial : IsInitial (spec_in s) s.first.now.codes
  pub monitored_are : s.monitored.now ≡ monitored_variables (spec_in s)

-- how the test of an assertion ends in which x changes
abbrev pub change_test_in : Setting → Assertion → ℕ → Decision → Type 0
change_test_in s a x = IsDecided (level_domains (spec_in s)) s.limit (test_formula (spec_in s) (order_in s) s.lemmas.now a x)

-- the verdict by the tests of these changes
abbrev pub IsJudgedBy : Setting → List ℕ → Assertion → AssertVerdict → Type 0
IsJudgedBy s xs = IsJudgedFrom (spec_in s) (order_in s) s.lemmas.now s.limit s.first.now.codes xs

-- ---- of those in which one variable changes

-- what they say of a pair of states whatever is asserted; no other monitored variable has a new level
abbrev pub change_of : Data → List ℕ → List Lemma → ℕ → Change
change_of spec order lemmas x = record { changed = x; members = map (frozen spec x) (common_formulas spec order lemmas x) }

pub record IsChangeIn (s : Setting) (change : Change) : Type 0 where
  pub change_is : change ≡ change_of (spec_in s) (order_in s) s.lemmas.now change.changed
  pub monitored : IsTrue (is_monitored (spec_in s) change.changed)

-- a test's formula, by the members that speak of its assertion
abbrev pub formula_in : Setting → List Formula → Change → Formula
formula_in s own change = And (map (frozen (spec_in s) change.changed) own ++ change.members)

-- ---- verdicts

-- no test has decided
abbrev pub is_open : AssertVerdict → Bool
is_open Yes = true
is_open FalseInitial = false
is_open (Unproved w) = false
is_open Undecided = false

-- the verdict that one test gives
abbrev pub verdict_of : Decision → AssertVerdict
verdict_of Unsatisfiable = Yes
verdict_of (Satisfied w) = Unproved w
verdict_of Over = Undecided

-- what comes of the verdicts so far, whatever the changes before, by the tests in which x changes
pub record AreNext (s : Setting) (x : ℕ) (assertions : List Assertion) (verdicts next : List AssertVerdict) : Type 0 where
  pub after : (xs : List ℕ) → HasEach (IsJudgedBy s xs) assertions verdicts → HasEach (IsJudgedBy s (xs ++ x ∷ [])) assertions next
