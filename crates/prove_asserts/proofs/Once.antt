-- An assertion has one verdict, and never none.
use Rattle.std.proofs.Common.{◌≡◌, ℕ, Bool, true, false, List, [], ◌∷◌, zero, suc, refl, sym, ap, ap₂, subst, ◌∙◌, arith, Some}
use Rattle.std.specs.Prelude.{slice_get}
use Rattle.std.proofs.lemmas.Bool.{false≢true}
use Rattle.std.proofs.lemmas.Option.{none-some, same_Some}
use Rattle.scr_spec.specs.Data.{Data}
use Rattle.scr_spec.specs.Meaning.{Codes, is_true}
use Rattle.scr_depend.specs.declared.order.Order.{Order}
use Rattle.scr_depend.specs.Passes.{PassesChecks}
use Rattle.prove_decide.specs.declared.decision.Decision.{Decision}
use Rattle.prove_decide.specs.declared.decision.Decision.TheVariants.{Over, Unsatisfiable, Satisfied}
use Rattle.prove_decide.specs.Levels.{level_domains}
use Rattle.prove_decide.specs.Alone.{IsDecided}
use Rattle.prove_decide.proofs.OneDecision.{one_decision, some_decision}
use Rattle.run_step.proofs.Runs.{one_next_state}
use Rattle.prove_goals.specs.Goals.{monitored_variables}
use Rattle.scr_resolve_asserts.specs.declared.assertion.Assertion.{Assertion}
use Rattle.prove_asserts.specs.declared.lemma.Lemma.{Lemma}
use Rattle.prove_asserts.specs.declared.verdict.AssertVerdict.{AssertVerdict}
use Rattle.prove_asserts.specs.declared.verdict.AssertVerdict.TheVariants.{Yes, FalseInitial, Unproved, Undecided}
use Rattle.prove_asserts.specs.Formulas.{test_formula}
use Rattle.prove_asserts.specs.Judged.{AreTested, all_passed, passed, satisfied, past, HoldsAtFirst, IsJudgedFrom, false_at_first, tested, IsJudged, HasEach}
use Rattle.prove_asserts.specs.Laws.{OneJudgement}

-- ---- tests

module _ (spec : Data) (order : List ℕ) (lemmas : List Lemma) (limit : ℕ) (a : Assertion) where
  abbrev IsTested : ℕ → Decision → Type 0
  IsTested x = IsDecided (level_domains spec) limit (test_formula spec order lemmas a x)

  same : (x : ℕ) (d e : Decision) → IsTested x d → IsTested x e → d ≡ e
  same x d e h k = one_decision (level_domains spec) limit (test_formula spec order lemmas a x) d e h k

  one_test : {xs : List ℕ} {v w : AssertVerdict} → AreTested spec order lemmas limit a xs v → AreTested spec order lemmas limit a xs w → v ≡ w
  one_test all_passed all_passed = refl
  one_test (passed p rest) (passed q more) = one_test rest more
  one_test (passed p rest) (satisfied q) = let e = same _ Unsatisfiable (Satisfied _) p q in cc
  one_test (passed p rest) (past q) = let e = same _ Unsatisfiable Over p q in cc
  one_test (satisfied p) (passed q rest) = let e = same _ (Satisfied _) Unsatisfiable p q in cc
  one_test (satisfied p) (satisfied q) = let e = same _ (Satisfied _) (Satisfied _) p q in cc
  one_test (satisfied p) (past q) = let e = same _ (Satisfied _) Over p q in cc
  one_test (past p) (passed q rest) = let e = same _ Over Unsatisfiable p q in cc
  one_test (past p) (satisfied q) = let e = same _ Over (Satisfied _) p q in cc
  one_test (past p) (past q) = refl

  some_tests : (xs : List ℕ) → ((v : AssertVerdict) → AreTested spec order lemmas limit a xs v → ⊥) → ⊥
  some_tests [] none = none Yes all_passed
  some_tests (x ∷ xs) none = some_decision (level_domains spec) limit (test_formula spec order lemmas a x) (by (λ behind. some_tests xs behind))
    where
      by : (((v : AssertVerdict) → AreTested spec order lemmas limit a xs v → ⊥) → ⊥) → (d : Decision) → IsTested x d → ⊥
      by behind Unsatisfiable h = behind (λ v more. none v (passed h more))
      by behind (Satisfied w) h = none (Unproved w) (satisfied h)
      by behind Over h = none Undecided (past h)

  -- ---- from a first state on

  module _ (first : Codes) (xs : List ℕ) where
    one_from : {v w : AssertVerdict} → IsJudgedFrom spec order lemmas limit first xs a v → IsJudgedFrom spec order lemmas limit first xs a w → v ≡ w
    one_from (false_at_first kind fails) (false_at_first again fail) = refl
    one_from (false_at_first kind fails) (tested holds t) = absurd (false≢true (sym fails ∙ holds kind))
    one_from (tested holds t) (false_at_first kind fails) = absurd (false≢true (sym fails ∙ holds kind))
    one_from (tested holds t) (tested too u) = one_test t u

    some_from : ((v : AssertVerdict) → IsJudgedFrom spec order lemmas limit first xs a v → ⊥) → ⊥
    some_from none = by_kind a.two refl
      where
        by_tests : HoldsAtFirst spec first a → ⊥
        by_tests holds = some_tests xs (λ v t. none v (tested holds t))

        at_first : a.two ≡ false → (b : Bool) → is_true spec first a.cond ≡ b → ⊥
        at_first kind true holds = by_tests (λ e. holds)
        at_first kind false fails = none FalseInitial (false_at_first kind fails)

        by_kind : (two : Bool) → a.two ≡ two → ⊥
        by_kind true kind = by_tests (λ e. absurd (false≢true (sym e ∙ kind)))
        by_kind false kind = at_first kind (is_true spec first a.cond) refl

-- ---- one verdict

module _ (spec : Data) (order : Order) (lemmas : List Lemma) (limit : ℕ) (passes : PassesChecks spec order) (a : Assertion) where
  one_verdict : (v w : AssertVerdict) → IsJudged spec order.list lemmas limit a v → IsJudged spec order.list lemmas limit a w → v ≡ w
  one_verdict v w h k =
      let same = one_next_state.one_initial spec order h.first k.first passes h.initial k.initial in
      one_from spec order.list lemmas limit a k.first (monitored_variables spec) (subst (λ s. IsJudgedFrom spec order.list lemmas limit s (monitored_variables spec) a v) same h.judged) k.judged

  some_verdict : ((v : AssertVerdict) → IsJudged spec order.list lemmas limit a v → ⊥) → ⊥
  some_verdict none =
      let at = one_next_state.initial spec order passes in
      some_from spec order.list lemmas limit a at.0 (monitored_variables spec) (λ v h. none v (record { first = at.0; initial = at.1; judged = h }))

-- ---- lists

module _ (P : Assertion → AssertVerdict → Type 0) where
  behind : (a : Assertion) (xs : List Assertion) (v : AssertVerdict) (vs : List AssertVerdict) → HasEach P (a ∷ xs) (v ∷ vs) → HasEach P xs vs
  behind a xs v vs h = let long = h.one_each in record { one_each = omega (arith, long); each = λ i. h.each (suc i) }

  in_front : (a : Assertion) (xs : List Assertion) (v : AssertVerdict) (vs : List AssertVerdict) → P a v → HasEach P xs vs → HasEach P (a ∷ xs) (v ∷ vs)
  in_front a xs v vs p h = record { one_each = ap suc h.one_each; each = each }
    where
      each : (i : ℕ) (b : Assertion) (w : AssertVerdict) → slice_get (a ∷ xs) i ≡ Some b → slice_get (v ∷ vs) i ≡ Some w → P b w
      each zero b w e g = subst (λ c. P c w) (same_Some a b e) (subst (P a) (same_Some v w g) p)
      each (suc i) b w e g = h.each i b w e g

  one_list : ((a : Assertion) (v w : AssertVerdict) → P a v → P a w → v ≡ w) → (xs : List Assertion) (vs ws : List AssertVerdict) → HasEach P xs vs → HasEach P xs ws → vs ≡ ws
  one_list one [] [] [] h k = refl
  one_list one [] [] (w ∷ ws) h k = let long = k.one_each in absurd (omega (arith, long))
  one_list one [] (v ∷ vs) ws h k = let long = h.one_each in absurd (omega (arith, long))
  one_list one (a ∷ xs) [] ws h k = let long = h.one_each in absurd (omega (arith, long))
  one_list one (a ∷ xs) (v ∷ vs) [] h k = let long = k.one_each in absurd (omega (arith, long))
  one_list one (a ∷ xs) (v ∷ vs) (w ∷ ws) h k =
      ap₂ (λ (z : AssertVerdict) zs. z ∷ zs) (one a v w (h.each 0 a v refl refl) (k.each 0 a w refl refl)) (one_list one xs vs ws (behind a xs v vs h) (behind a xs w ws k))

  some_list : ((a : Assertion) → ((v : AssertVerdict) → P a v → ⊥) → ⊥) → (xs : List Assertion) → ((vs : List AssertVerdict) → HasEach P xs vs → ⊥) → ⊥
  some_list some [] none = none [] (record { one_each = refl; each = λ i a v e. absurd (none-some a e) })
  some_list some (a ∷ xs) none = some a (λ v p. some_list some xs (λ vs h. none (v ∷ vs) (in_front a xs v vs p h)))

pub one_judgement : OneJudgement
one_judgement = record {
  once = λ spec order lemmas limit a v w passes h k. one_verdict spec order lemmas limit passes a v w h k;
  some = λ spec order lemmas limit a passes none. some_verdict spec order lemmas limit passes a none;
  all_once = λ spec order lemmas limit xs vs ws passes h k. one_list (IsJudged spec order.list lemmas limit) (one_verdict spec order lemmas limit passes) xs vs ws h k;
  all_some = λ spec order lemmas limit xs passes none. some_list (IsJudged spec order.list lemmas limit) (some_verdict spec order lemmas limit passes) xs none;
}
