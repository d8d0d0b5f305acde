-- The law of searches for broken assertions.
use Rattle.std.specs.Prelude.{◌≡◌, ◌⊎◌, ℕ, ◌<◌, List, [], Option, Some, slice_get}
use Rattle.scr_spec.specs.Data.{Data}
use Rattle.scr_depend.specs.declared.order.Order.{Order}
use Rattle.scr_resolve_asserts.specs.declared.assertion.Assertion.{Assertion}
use Rattle.scr_resolve_asserts.specs.Texts.{AssertionsOf}
use Rattle.run_reach.specs.Answers.{NoneMeets}
use Rattle.run_reach.specs.Targets.{broken_by}
use Rattle.cmd_work.specs.declared.status.Status.{Status}
use Rattle.cmd_work.specs.declared.status.Status.TheVariants.{Done, AssertRefused}
use Rattle.cmd_work.specs.Ends.{IsFront}
use Rattle.cmd_checked.specs.Checking.{Passes}
use Rattle.cmd_reach.specs.Reaches.{IsRefusedWith, ReachesEach, ReachAnswers}

-- the lines on each assertion that the text makes
pub record TellsAnswers (most : ℕ) (spec : Data) (text bytes : List ℕ) (status : Status) : Type 0 where
  pub assertions : List Assertion
  pub spells : AssertionsOf text spec assertions
  pub each : ReachesEach most spec assertions bytes status

-- or the line on why it makes none
abbrev pub TellsReach : ℕ → Data → List ℕ → List ℕ → Status → Type 0
TellsReach most spec text bytes status = TellsAnswers most spec text bytes status ⊎ (IsRefusedWith text spec bytes × (status ≡ AssertRefused))

-- no run breaks an assertion that the text makes
pub record AreNeverBroken (spec : Data) (text : List ℕ) : Type 0 where
  pub assertions : List Assertion
  pub spells : AssertionsOf text spec assertions
  pub each : (i : ℕ) (a : Assertion) → slice_get assertions i ≡ Some a → NoneMeets spec (broken_by spec a.two a.cond)

pub record OneReach : Type 0 where
  -- files have one answer of `reach`, and never none
  pub once : (limit most : ℕ) (held second : Option (List ℕ)) (x y : List ℕ) (i j : Status) → ReachAnswers limit most held second x i → ReachAnswers limit most held second y j
      → (x ≡ y) × (i ≡ j)
  pub some : (limit most : ℕ) (held second : Option (List ℕ)) → 0 < most → IsFront (ReachAnswers limit most held second) []
  -- for a text that passes its checks
  pub tells : (limit most : ℕ) (text second bytes : List ℕ) (status : Status) (spec : Data) (order : Order) → Passes limit text spec order
      → ReachAnswers limit most (Some text) (Some second) bytes status → TellsReach most spec second bytes status
  -- with `Done` the text passes, and no run breaks an assertion
  pub done : (limit most : ℕ) (text second bytes : List ℕ) → ReachAnswers limit most (Some text) (Some second) bytes Done
      → (spec : Data) × (order : Order) × Passes limit text spec order × AreNeverBroken spec second
