-- What a verdict says of every run: the induction over the run.
use Rattle.std.proofs.Common.{◌≡◌, ℕ, ◌-ℤ◌, Bool, true, false, List, [], ◌∷◌, refl, sym, subst, ◌∙◌, IsTrue}
use Rattle.std.specs.List.{AllByRecursion as Each}
use Rattle.scr_spec.specs.Data.{Data}
use Rattle.scr_spec.specs.declared.state.Input.{Input}
use Rattle.scr_spec.specs.Meaning.{Codes, code_of, is_true}
use Rattle.scr_spec.specs.Relations.{is_monitored}
use Rattle.prove_formula.specs.Between.{is_true_between}
use Rattle.scr_depend.specs.declared.order.Order.{Order}
use Rattle.scr_depend.specs.Related.{bound_of, IsBounded}
use Rattle.scr_depend.specs.Passes.{PassesChecks}
use Rattle.run_step.proofs.Runs.{one_next_state}
use Rattle.run_step.specs.Runs.{IsConsistent, IsInitial, IsStep, Leads, IsRun}
use Rattle.prove_decide.specs.Levels.{level_domains}
use Rattle.prove_decide.specs.Least.{IsUnsatisfiable}
use Rattle.prove_goals.specs.Goals.{monitored_variables}
use Rattle.prove_invariants.proofs.OverRuns.{not_false}
use Rattle.prove_invariants.proofs.Sound.{each_monitored}
use Rattle.scr_resolve_asserts.specs.declared.assertion.Assertion.{Assertion}
use Rattle.prove_asserts.specs.declared.lemma.Lemma.{Lemma}
use Rattle.prove_asserts.specs.declared.verdict.AssertVerdict.TheVariants.{Yes, FalseInitial}
use Rattle.prove_asserts.specs.Claims.{lemmas_hold, IsFullPair, IsBroken, IsBrokenAt}
use Rattle.prove_asserts.specs.Formulas.{test_formula}
use Rattle.prove_asserts.specs.Judged.{AreTested, all_passed, passed, IsJudgedFrom, false_at_first, tested}
use Rattle.prove_asserts.specs.Laws.{HoldInRuns, Neighbours, IsTrueAlong, IsFalseInFirst, AssertionsHold}
use Rattle.prove_asserts.proofs.Tells.{unbroken}

-- ---- tests

passed_each : (spec : Data) (order : List ℕ) (lemmas : List Lemma) (limit : ℕ) (a : Assertion) {xs : List ℕ} → AreTested spec order lemmas limit a xs Yes
    → Each (λ (x : ℕ). IsUnsatisfiable (level_domains spec) (test_formula spec order lemmas a x)) xs
passed_each spec order lemmas limit a all_passed = tt
passed_each spec order lemmas limit a (passed p rest) = (p.1, passed_each spec order lemmas limit a rest)

never_false : (spec : Data) (order : List ℕ) (lemmas : List Lemma) (limit : ℕ) (a : Assertion) {xs : List ℕ} → AreTested spec order lemmas limit a xs FalseInitial → ⊥
never_false spec order lemmas limit a (passed p rest) = never_false spec order lemmas limit a rest

-- ---- a step is a full pair

step_pair : (spec : Data) (old : Codes) (input : Input) (new : Codes) → IsConsistent spec old → IsStep spec old input new → IsFullPair spec input.variable old new
step_pair spec old input new c step = record {
  monitored = step.may_come.freely.monitored;
  old_typed = c.typed;
  new_typed = step.follows.typed;
  differs = λ e. step.may_come.freely.differs (sym step.follows.taken ∙ e);
  bounded = subst (λ z. IsBounded (bound_of spec input.variable) (z -ℤ code_of old input.variable)) (sym step.follows.taken) step.may_come.bounded;
  others = step.follows.others;
  related = step.follows.related;
  own = c.own;
}

-- ---- over a run

module _ (spec : Data) (lemmas : List Lemma) (a : Assertion) (two : Bool) (kind : a.two ≡ two) (nothing : (x : ℕ) → IsTrue (is_monitored spec x) → (s t : Codes) → IsBrokenAt spec lemmas a x s t → ⊥) (goes_on : (old : Codes) (input : Input) (new : Codes) → IsStep spec old input new → IsConsistent spec new) where
  abbrev Known : Codes → Type 0
  Known at = IsTrue (lemmas_hold spec lemmas at)

  unbroken_step : (old : Codes) (input : Input) (new : Codes) → IsConsistent spec old → Known old → Known new → IsStep spec old input new → IsBroken spec two a.cond old new → ⊥
  unbroken_step old input new c before after step b =
      nothing input.variable step.may_come.freely.monitored old new (record {
        pair = step_pair spec old input new c step;
        known_before = before;
        known_after = after;
        broken = subst (λ k. IsBroken spec k a.cond old new) (sym kind) b;
      })

one_along : (spec : Data) (lemmas : List Lemma) (a : Assertion) → a.two ≡ false → ((x : ℕ) → IsTrue (is_monitored spec x) → (s t : Codes) → IsBrokenAt spec lemmas a x s t → ⊥)
    → ((old : Codes) (input : Input) (new : Codes) → IsStep spec old input new → IsConsistent spec new) → (at : Codes) (inputs : List Input) (states : List Codes) → IsConsistent spec at
    → IsTrue (lemmas_hold spec lemmas at) → IsTrue (is_true spec at a.cond) → Leads (IsStep spec) at inputs states → Each (λ s. IsTrue (lemmas_hold spec lemmas s)) states → Each (λ s. IsTrue (is_true spec s a.cond)) states
one_along spec lemmas a kind nothing goes_on at [] [] c k h leads ks = tt
one_along spec lemmas a kind nothing goes_on at [] (new ∷ states) c k h leads ks = absurd leads
one_along spec lemmas a kind nothing goes_on at (input ∷ inputs) [] c k h leads ks = absurd leads
one_along spec lemmas a kind nothing goes_on at (input ∷ inputs) (new ∷ states) c k h leads ks =
    let here : IsTrue (is_true spec new a.cond) = not_false (is_true spec new a.cond) (λ fails. unbroken_step spec lemmas a false kind nothing goes_on at input new c k ks.0 leads.0 (h, fails)) in
    (here, one_along spec lemmas a kind nothing goes_on new inputs states (goes_on at input new leads.0) ks.0 here leads.1 ks.1)

two_along : (spec : Data) (lemmas : List Lemma) (a : Assertion) → a.two ≡ true → ((x : ℕ) → IsTrue (is_monitored spec x) → (s t : Codes) → IsBrokenAt spec lemmas a x s t → ⊥)
    → ((old : Codes) (input : Input) (new : Codes) → IsStep spec old input new → IsConsistent spec new) → (at : Codes) (inputs : List Input) (states : List Codes) → IsConsistent spec at
    → IsTrue (lemmas_hold spec lemmas at) → Leads (IsStep spec) at inputs states → Each (λ s. IsTrue (lemmas_hold spec lemmas s)) states
    → Neighbours (λ old new. IsTrue (is_true_between spec old new a.cond)) (at ∷ states)
two_along spec lemmas a kind nothing goes_on at [] [] c k leads ks = tt
two_along spec lemmas a kind nothing goes_on at [] (new ∷ states) c k leads ks = absurd leads
two_along spec lemmas a kind nothing goes_on at (input ∷ inputs) [] c k leads ks = absurd leads
two_along spec lemmas a kind nothing goes_on at (input ∷ inputs) (new ∷ states) c k leads ks =
    let here : IsTrue (is_true_between spec at new a.cond) = not_false (is_true_between spec at new a.cond) (λ fails. unbroken_step spec lemmas a true kind nothing goes_on at input new c k ks.0 leads.0 fails) in
    (here, two_along spec lemmas a kind nothing goes_on new inputs states (goes_on at input new leads.0) ks.0 leads.1 ks.1)

-- ---- the law

module _ (spec : Data) (order : Order) (lemmas : List Lemma) (limit : ℕ) (a : Assertion) (passes : PassesChecks spec order) where
  steps_on : (old : Codes) (input : Input) (new : Codes) → IsStep spec old input new → IsConsistent spec new
  steps_on old input new step = one_next_state.goes_on spec old input new passes.sound step

  nothing_breaks : AreTested spec order.list lemmas limit a (monitored_variables spec) Yes → (x : ℕ) → IsTrue (is_monitored spec x) → (s t : Codes) → IsBrokenAt spec lemmas a x s t → ⊥
  nothing_breaks tests x h =
      unbroken spec order.list lemmas a x passes.sound passes.ordered.ordered
      (each_monitored spec (λ y. IsUnsatisfiable (level_domains spec) (test_formula spec order.list lemmas a y)) (passed_each spec order.list lemmas limit a tests) x h)

  true_along : (at_first : Codes) → IsInitial spec at_first → IsJudgedFrom spec order.list lemmas limit at_first (monitored_variables spec) a Yes → HoldInRuns spec lemmas → (inputs : List Input) (states : List Codes) → IsRun spec inputs states
      → (two : Bool) → a.two ≡ two → IsTrueAlong spec two a.cond states
  true_along at_first initial judged known inputs [] run two kind = absurd run
  true_along at_first initial (tested holds tests) known inputs (at ∷ states) run false kind =
      let ks = known inputs (at ∷ states) run in
      let here = subst (λ s. IsTrue (is_true spec s a.cond)) (one_next_state.one_initial spec order at_first at passes initial run.0) (holds kind) in
      (here, one_along spec lemmas a kind (nothing_breaks tests) steps_on at inputs states (one_next_state.starts spec at run.0) ks.0 here run.1 ks.1)
  true_along at_first initial (tested holds tests) known inputs (at ∷ states) run true kind =
      let ks = known inputs (at ∷ states) run in
      two_along spec lemmas a kind (nothing_breaks tests) steps_on at inputs states (one_next_state.starts spec at run.0) ks.0 run.1 ks.1

  false_first : (at_first : Codes) → IsInitial spec at_first → IsJudgedFrom spec order.list lemmas limit at_first (monitored_variables spec) a FalseInitial → (inputs : List Input) (states : List Codes) → IsRun spec inputs states → IsFalseInFirst spec a states
  false_first at_first initial judged inputs [] run = absurd run
  false_first at_first initial (false_at_first kind fails) inputs (at ∷ states) run = (kind, subst (λ s. is_true spec s a.cond ≡ false) (one_next_state.one_initial spec order at_first at passes initial run.0) fails)
  false_first at_first initial (tested holds tests) inputs (at ∷ states) run = absurd (never_false spec order.list lemmas limit a tests)

pub assertions_hold : AssertionsHold
assertions_hold = record {
  hold = λ spec order lemmas limit a passes known j inputs states run. true_along spec order lemmas limit a passes j.first j.initial j.judged known inputs states run a.two refl;
  fail = λ spec order lemmas limit a passes j inputs states run. false_first spec order lemmas limit a passes j.first j.initial j.judged inputs states run;
}
