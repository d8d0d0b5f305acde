-- The law of assertions.
use Rattle.std.specs.Prelude.{◌≡◌, ◌⊎◌, ℕ, List, [], Option, Some, slice_get}
use Rattle.std.specs.List.{AllByRecursion}
use Rattle.scr_spec.specs.Data.{Data}
use Rattle.scr_spec.specs.declared.state.Input.{Input}
use Rattle.scr_spec.specs.Meaning.{Codes}
use Rattle.scr_depend.specs.declared.order.Order.{Order}
use Rattle.scr_depend.specs.Dependencies.{graph_of}
use Rattle.scr_depend.specs.Orders.{IsOrder}
use Rattle.run_step.specs.Runs.{IsRun}
use Rattle.scr_resolve_asserts.specs.declared.assertion.Assertion.{Assertion}
use Rattle.scr_resolve_asserts.specs.Texts.{AssertionsOf}
use Rattle.prove_asserts.specs.declared.lemma.Lemma.{Lemma}
use Rattle.prove_asserts.specs.declared.verdict.AssertVerdict.{AssertVerdict}
use Rattle.prove_asserts.specs.declared.verdict.AssertVerdict.TheVariants.{Yes}
use Rattle.prove_asserts.specs.Derived.{AreDerivedLemmas}
use Rattle.prove_asserts.specs.Judged.{HasEach}
use Rattle.prove_asserts.specs.Laws.{HoldInRuns, IsTrueAlong, IsSo}
use Rattle.cmd_work.specs.declared.status.Status.{Status}
use Rattle.cmd_work.specs.declared.status.Status.TheVariants.{Done, AssertRefused}
use Rattle.cmd_work.specs.Ends.{IsFront}
use Rattle.cmd_checked.specs.Checking.{Passes}
use Rattle.cmd_assert.specs.Texts.{verdicts_text}
use Rattle.cmd_assert.specs.Asserts.{IsRefusedWith, verdicts_status, Judges, AssertAnswers}

-- ---- what is written

-- a line on each assertion that the text makes, and each verdict tells what is so; what is taken for granted is all that is derived
-- within the limit, and holds in every state of every run
pub record TellsVerdicts (limit : ℕ) (spec : Data) (text bytes : List ℕ) (status : Status) : Type 0 where
  pub assertions : List Assertion
  pub spells : AssertionsOf text spec assertions
  pub verdicts : List AssertVerdict
  pub printed : bytes ≡ verdicts_text spec assertions verdicts
  pub ending : status ≡ verdicts_status verdicts
  pub order : List ℕ
  pub ordered : IsOrder (graph_of spec) order
  pub lemmas : List Lemma
  pub derived : AreDerivedLemmas spec order limit lemmas
  pub granted : HoldInRuns spec lemmas
  pub so : HasEach (IsSo spec order lemmas) assertions verdicts

-- or the line on why it makes none
abbrev pub TellsRefusal : Data → List ℕ → List ℕ → Status → Type 0
TellsRefusal spec text bytes status = IsRefusedWith text spec bytes × (status ≡ AssertRefused)

abbrev pub TellsAssertions : ℕ → Data → List ℕ → List ℕ → Status → Type 0
TellsAssertions limit spec text bytes status = TellsVerdicts limit spec text bytes status ⊎ TellsRefusal spec text bytes status

-- each assertion that the text makes is proved: it is true in every state, or between every two neighbouring states, of every run
pub record AreProved (spec : Data) (text : List ℕ) : Type 0 where
  pub assertions : List Assertion
  pub spells : AssertionsOf text spec assertions
  pub each : (i : ℕ) (a : Assertion) → slice_get assertions i ≡ Some a → (inputs : List Input) (states : List Codes) → IsRun spec inputs states → IsTrueAlong spec a.two a.cond states

-- ---- where all are proved

-- the text is not refused, and the verdict on each assertion that it makes is yes
abbrev pub AreAllYes : ℕ → Data → List ℕ → Type 0
AreAllYes limit spec text = ((line : List ℕ) → IsRefusedWith text spec line → ⊥)
    × ((assertions : List Assertion) (verdicts : List AssertVerdict) → AssertionsOf text spec assertions → Judges limit spec assertions verdicts → AllByRecursion (λ v. v ≡ Yes) verdicts)

pub record OneAssertion : Type 0 where
  -- files have one answer of `assert`, and never none
  pub once : (limit : ℕ) (held second : Option (List ℕ)) (x y : List ℕ) (i j : Status) → AssertAnswers limit held second x i → AssertAnswers limit held second y j → (x ≡ y) × (i ≡ j)
  pub some : (limit : ℕ) (held second : Option (List ℕ)) → IsFront (AssertAnswers limit held second) []
  -- for a text that passes its checks each line is so
  pub tells : (limit : ℕ) (text second bytes : List ℕ) (status : Status) (spec : Data) (order : Order) → Passes limit text spec order
      → AssertAnswers limit (Some text) (Some second) bytes status → TellsAssertions limit spec second bytes status
  -- with `Done` the text passes, and each assertion is proved
  pub done : (limit : ℕ) (text second bytes : List ℕ) → AssertAnswers limit (Some text) (Some second) bytes Done
      → (spec : Data) × (order : Order) × Passes limit text spec order × AreProved spec second
  -- and where the verdict on each is yes, the ending is `Done`
  pub yes : (limit : ℕ) (text second bytes : List ℕ) (status : Status) (spec : Data) (order : Order) → Passes limit text spec order → AreAllYes limit spec second
      → AssertAnswers limit (Some text) (Some second) bytes status → status ≡ Done
