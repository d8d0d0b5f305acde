-- Laws of runs.
use Rattle.std.specs.Prelude.{◌≡◌, ◌↔◌, ℕ, List, [], ◌∷◌, ◌++◌}
use Rattle.std.specs.List.{AllByRecursion}
use Rattle.scr_spec.specs.Data.{Data}
use Rattle.scr_spec.specs.declared.state.Input.{Input}
use Rattle.scr_spec.specs.Meaning.{Codes}
use Rattle.scr_spec.specs.Sound.{IsSound}
use Rattle.scr_depend.specs.declared.order.Order.{Order}
use Rattle.scr_depend.specs.Passes.{PassesChecks}
use Rattle.scr_depend.specs.Related.{HasNoBounds, IsRelated, IsRelatedBy}
use Rattle.run_step.specs.Runs.{IsConsistent, IsInitial, IsInput, IsStep, IsRun, IsRunFreely, EndsIn, AreValid, AreValidFreely}

-- exactly one state is initial, and exactly one follows a consistent state on an input that may come in it
pub record OneNextState : Type 0 where
  pub initial : (spec : Data) (order : Order) → PassesChecks spec order → (first : Codes) × IsInitial spec first
  pub one_initial : (spec : Data) (order : Order) (a b : Codes) → PassesChecks spec order → IsInitial spec a → IsInitial spec b → a ≡ b
  pub next : (spec : Data) (order : Order) (old : Codes) (input : Input) → PassesChecks spec order → IsConsistent spec old → IsInput spec old input
      → (new : Codes) × IsStep spec old input new
  pub one_next : (spec : Data) (order : Order) (old : Codes) (input : Input) (a b : Codes) → PassesChecks spec order → IsConsistent spec old
      → IsStep spec old input a → IsStep spec old input b → a ≡ b
  -- an initial state is consistent, and so is what follows one that is
  pub starts : (spec : Data) (at : Codes) → IsInitial spec at → IsConsistent spec at
  pub goes_on : (spec : Data) (old : Codes) (input : Input) (new : Codes) → IsSound spec → IsStep spec old input new → IsConsistent spec new

-- each valid list of inputs has exactly one run, and each run is one of a valid list
pub record OneRun : Type 0 where
  pub run : (spec : Data) (order : Order) (inputs : List Input) → PassesChecks spec order → AreValid spec inputs → (states : List Codes) × IsRun spec inputs states
  pub one_run : (spec : Data) (order : Order) (inputs : List Input) (a b : List Codes) → PassesChecks spec order → IsRun spec inputs a → IsRun spec inputs b → a ≡ b
  pub valid : (spec : Data) (inputs : List Input) (states : List Codes) → IsSound spec → IsRun spec inputs states → AreValid spec inputs
  -- all its states are typed and agree with the condition tables
  pub consistent : (spec : Data) (inputs : List Input) (states : List Codes) → IsSound spec → IsRun spec inputs states → AllByRecursion (IsConsistent spec) states
  -- it is made step by step
  pub starts : (spec : Data) (first : Codes) → IsInitial spec first → EndsIn spec [] first
  pub goes_on : (spec : Data) (inputs : List Input) (old : Codes) (input : Input) (new : Codes)
      → EndsIn spec inputs old → IsStep spec old input new → EndsIn spec (inputs ++ input ∷ []) new
  -- every state in which one ends is consistent
  pub ends : (spec : Data) (inputs : List Input) (at : Codes) → IsSound spec → EndsIn spec inputs at → IsConsistent spec at

-- a step from a consistent state is a related pair for each variable, and what changed in it is the variable of the input
pub record StepsAreRelated : Type 0 where
  pub pair : (spec : Data) (v : ℕ) (old : Codes) (input : Input) (new : Codes) → IsSound spec → IsConsistent spec old → IsStep spec old input new → IsRelated spec v old new
  pub related : (spec : Data) (v : ℕ) (old : Codes) (input : Input) (new : Codes) → IsSound spec → IsConsistent spec old → IsStep spec old input new
      → IsRelatedBy spec v input.variable old new

-- without NAT lines bounds make no difference
pub record SameUnboundedRuns : Type 0 where
  pub runs : (spec : Data) (inputs : List Input) (states : List Codes) → HasNoBounds spec → IsRun spec inputs states ↔ IsRunFreely spec inputs states
  pub valid : (spec : Data) (inputs : List Input) → HasNoBounds spec → AreValid spec inputs ↔ AreValidFreely spec inputs
