-- Laws of assertions.
use Rattle.std.specs.Prelude.{◌≡◌, ◌↔◌, ℕ, Bool, true, false, IsTrue, List, [], ◌∷◌, ◌*◌, length, map, ◌++◌, ⊤}
use Rattle.std.specs.List.{AllByRecursion, filter, list_all, range_with_len}
use Rattle.dd_formula.specs.Truth.{holds_at}
use Rattle.scr_spec.specs.Data.{Data}
use Rattle.scr_spec.specs.Meaning.{Codes, is_true}
use Rattle.scr_spec.specs.Domains.{IsTyped}
use Rattle.scr_spec.specs.Relations.{is_monitored, KeepsOthers}
use Rattle.scr_spec.specs.Sound.{IsSound}
use Rattle.scr_spec.specs.declared.cond.Cond.{Cond}
use Rattle.scr_spec.specs.declared.state.Input.{Input}
use Rattle.prove_goals.specs.Goals.{monitored_variables}
use Rattle.prove_formula.specs.Levels.{valuation_of}
use Rattle.prove_formula.specs.Between.{is_true_between}
use Rattle.prove_formula.specs.Solutions.{IsSolution}
use Rattle.scr_depend.specs.declared.order.Order.{Order}
use Rattle.scr_depend.specs.Dependencies.{graph_of}
use Rattle.scr_depend.specs.Orders.{IsOrder}
use Rattle.scr_depend.specs.Passes.{PassesChecks}
use Rattle.prove_decide.specs.declared.witness.Witness.{Witness}
use Rattle.prove_decide.specs.Levels.{level_domains}
use Rattle.prove_decide.specs.Least.{IsUnsatisfiable}
use Rattle.prove_decide.specs.Readings.{occurs, IsWitness}
use Rattle.prove_decide.specs.Pairs.{pair_reading, IsPairBefore}
use Rattle.run_step.specs.Runs.{IsRun}
use Rattle.scr_resolve_asserts.specs.declared.assertion.Assertion.{Assertion}
use Rattle.prove_asserts.specs.declared.lemma.Lemma.{Lemma}
use Rattle.prove_asserts.specs.declared.verdict.AssertVerdict.{AssertVerdict}
use Rattle.prove_asserts.specs.declared.verdict.AssertVerdict.TheVariants.{Yes, FalseInitial, Unproved, Undecided}
use Rattle.prove_asserts.specs.Claims.{lemmas_hold, IsFullPair, IsBrokenAt}
use Rattle.prove_asserts.specs.Formulas.{full_formulas, test_formula}
use Rattle.prove_asserts.specs.Judged.{IsJudged, AreJudged}
use Rattle.prove_asserts.specs.Derived.{AreDerivedLemmas}

-- ---- runs

-- what is taken for granted holds in every state of every run
abbrev pub HoldInRuns : Data → List Lemma → Type 0
HoldInRuns spec lemmas = (inputs : List Input) (states : List Codes) → IsRun spec inputs states → AllByRecursion (λ at. IsTrue (lemmas_hold spec lemmas at)) states

-- every two neighbours
abbrev pub Neighbours : (Codes → Codes → Type 0) → List Codes → Type 0
Neighbours P [] = Unit {0}
Neighbours P (a ∷ []) = Unit {0}
Neighbours P (a ∷ b ∷ states) = P a b × Neighbours P (b ∷ states)

-- a one-state assertion is true in every state, a two-state one between every two neighbours
abbrev pub IsTrueAlong : Data → Bool → Cond → List Codes → Type 0
IsTrueAlong spec false c states = AllByRecursion (λ at. IsTrue (is_true spec at c)) states
IsTrueAlong spec true c states = Neighbours (λ old new. IsTrue (is_true_between spec old new c)) states

-- a one-state assertion is false in the first state
abbrev pub IsFalseInFirst : Data → Assertion → List Codes → Type 0
IsFalseInFirst spec a [] = ⊥
IsFalseInFirst spec a (first ∷ states) = (a.two ≡ false) × (is_true spec first a.cond ≡ false)

-- what a verdict says of every run
pub record AssertionsHold : Type 0 where
  pub hold : (spec : Data) (order : Order) (lemmas : List Lemma) (limit : ℕ) (a : Assertion) → PassesChecks spec order → HoldInRuns spec lemmas → IsJudged spec order.list lemmas limit a Yes
      → (inputs : List Input) (states : List Codes) → IsRun spec inputs states → IsTrueAlong spec a.two a.cond states
  pub fail : (spec : Data) (order : Order) (lemmas : List Lemma) (limit : ℕ) (a : Assertion) → PassesChecks spec order → IsJudged spec order.list lemmas limit a FalseInitial
      → (inputs : List Input) (states : List Codes) → IsRun spec inputs states → IsFalseInFirst spec a states

-- what is derived may be taken for granted
pub record DerivedLemmas : Type 0 where
  pub hold : (spec : Data) (order : Order) (limit : ℕ) (lemmas : List Lemma) → PassesChecks spec order → AreDerivedLemmas spec order.list limit lemmas → HoldInRuns spec lemmas
  -- and it is one, and never none
  pub once : (spec : Data) (order : Order) (limit : ℕ) (a b : List Lemma) → PassesChecks spec order → AreDerivedLemmas spec order.list limit a → AreDerivedLemmas spec order.list limit b → a ≡ b
  pub some : (spec : Data) (order : Order) (limit : ℕ) → PassesChecks spec order → ((lemmas : List Lemma) → AreDerivedLemmas spec order.list limit lemmas → ⊥) → ⊥

-- an assertion has one verdict, and never none; so has a list of them
pub record OneJudgement : Type 0 where
  pub once : (spec : Data) (order : Order) (lemmas : List Lemma) (limit : ℕ) (a : Assertion) (v w : AssertVerdict) → PassesChecks spec order
      → IsJudged spec order.list lemmas limit a v → IsJudged spec order.list lemmas limit a w → v ≡ w
  pub some : (spec : Data) (order : Order) (lemmas : List Lemma) (limit : ℕ) (a : Assertion) → PassesChecks spec order → ((v : AssertVerdict) → IsJudged spec order.list lemmas limit a v → ⊥) → ⊥
  pub all_once : (spec : Data) (order : Order) (lemmas : List Lemma) (limit : ℕ) (assertions : List Assertion) (vs ws : List AssertVerdict) → PassesChecks spec order
      → AreJudged spec order.list lemmas limit assertions vs → AreJudged spec order.list lemmas limit assertions ws → vs ≡ ws
  pub all_some : (spec : Data) (order : Order) (lemmas : List Lemma) (limit : ℕ) (assertions : List Assertion) → PassesChecks spec order
      → ((vs : List AssertVerdict) → AreJudged spec order.list lemmas limit assertions vs → ⊥) → ⊥

-- ---- tests

-- the formulas of a full pair in which the monitored variable x changes are all true exactly there, among typed pairs at
-- which the other monitored variables keep their codes
pub record FullPairsTell : Type 0 where
  pub tell : (spec : Data) (order : List ℕ) (x : ℕ) → IsSound spec → IsOrder (graph_of spec) order → IsTrue (is_monitored spec x) → (s t : Codes) → IsTyped spec s → IsTyped spec t
      → KeepsOthers spec x s t
      → IsTrue (list_all (holds_at (valuation_of s t)) (full_formulas spec order x)) ↔ IsFullPair spec x s t

-- the witness shows the least codes of a change that breaks the assertion
pub record ShowsBreak (spec : Data) (order : List ℕ) (lemmas : List Lemma) (a : Assertion) (x : ℕ) (w : Witness) : Type 0 where
  pub old : Codes
  pub new : Codes
  pub broken : IsBrokenAt spec lemmas a x old new
  pub least : (s t : Codes) → IsBrokenAt spec lemmas a x s t → IsPairBefore (test_formula spec order lemmas a x) s t old new → ⊥
  pub shown : w.readings ≡ map (pair_reading old new) (filter (λ level. occurs level (test_formula spec order lemmas a x)) (range_with_len 0 (2 * length spec.variables)))

-- the formula of a test in which the monitored variable x changes is true exactly at the changes that break the assertion,
-- among pairs at which the other monitored variables keep their codes; where it is never true, no change of x breaks the
-- assertion
pub record TestsTell : Type 0 where
  pub tell : (spec : Data) (order : List ℕ) (lemmas : List Lemma) (a : Assertion) (x : ℕ) → IsSound spec → IsOrder (graph_of spec) order → IsTrue (is_monitored spec x) → (s t : Codes)
      → KeepsOthers spec x s t
      → IsSolution spec (test_formula spec order lemmas a x) s t ↔ IsBrokenAt spec lemmas a x s t
  pub never : (spec : Data) (order : List ℕ) (lemmas : List Lemma) (a : Assertion) (x : ℕ) → IsSound spec → IsOrder (graph_of spec) order
      → IsUnsatisfiable (level_domains spec) (test_formula spec order lemmas a x) → (s t : Codes) → IsBrokenAt spec lemmas a x s t → ⊥
  pub shows : (spec : Data) (order : List ℕ) (lemmas : List Lemma) (a : Assertion) (x : ℕ) (w : Witness) → IsSound spec → IsOrder (graph_of spec) order → IsTrue (is_monitored spec x)
      → IsWitness (level_domains spec) (test_formula spec order lemmas a x) w → ShowsBreak spec order lemmas a x w

-- ---- verdicts

-- among the changes of these variables, in order, the first that breaks the assertion, with its least codes
pub record IsFirstBreak (spec : Data) (order : List ℕ) (lemmas : List Lemma) (a : Assertion) (xs : List ℕ) (w : Witness) : Type 0 where
  pub before : List ℕ
  pub changed : ℕ
  pub behind : List ℕ
  pub place : xs ≡ before ++ changed ∷ behind
  pub none_before : AllByRecursion (λ y. (s t : Codes) → IsBrokenAt spec lemmas a y s t → ⊥) before
  pub shows : ShowsBreak spec order lemmas a changed w

-- what a verdict tells of an assertion
abbrev pub IsSo : Data → List ℕ → List Lemma → Assertion → AssertVerdict → Type 0
IsSo spec order lemmas a Yes = (inputs : List Input) (states : List Codes) → IsRun spec inputs states → IsTrueAlong spec a.two a.cond states
IsSo spec order lemmas a FalseInitial = (inputs : List Input) (states : List Codes) → IsRun spec inputs states → IsFalseInFirst spec a states
IsSo spec order lemmas a (Unproved w) = IsFirstBreak spec order lemmas a (monitored_variables spec) w
IsSo spec order lemmas a Undecided = ⊤

-- where what is taken for granted holds in every run, each verdict tells what is so
pub record VerdictsTell : Type 0 where
  pub tell : (spec : Data) (order : Order) (lemmas : List Lemma) (limit : ℕ) (a : Assertion) (v : AssertVerdict) → PassesChecks spec order → HoldInRuns spec lemmas
      → IsJudged spec order.list lemmas limit a v → IsSo spec order.list lemmas a v
