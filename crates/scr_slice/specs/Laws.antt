-- Laws of slices.
use Rattle.std.specs.Prelude.{◌≡◌, ℕ, false, IsTrue, List, length, nat_lt}
use Rattle.scr_spec.specs.Data.{Data}
use Rattle.scr_spec.specs.declared.cond.Cond.{Cond}
use Rattle.scr_spec.specs.Meaning.{Codes, code_of, is_true}
use Rattle.scr_spec.specs.declared.state.Input.{Input}
use Rattle.scr_depend.specs.declared.order.Order.{Order}
use Rattle.scr_spec.specs.Sound.{IsSound}
use Rattle.scr_depend.specs.Graphs.{is_among}
use Rattle.run_step.specs.Runs.{IsConsistent, IsStep, IsRun, AreValid}
use Rattle.scr_depend.specs.Passes.{PassesChecks}
use Rattle.scr_slice.specs.Mentions.{cond_mentions}
use Rattle.scr_slice.specs.Renumbered.{cond_with}
use Rattle.scr_slice.specs.Slices.{AreKept, HoldsEach, IsKeepable, IsSlice, kept_codes, kept_inputs, kept_states}

-- a condition with new numbers is true where the old one is, if the constants stay and the states give the new numbers the codes of the old
pub record SameTruth : Type 0 where
  pub truth : (number : ℕ → ℕ) (spec other : Data) (at moved : Codes) (c : Cond) → other.constants ≡ spec.constants
      → ((w : ℕ) → IsTrue (cond_mentions w c) → code_of moved (number w) ≡ code_of at w) → is_true other moved (cond_with number c) ≡ is_true spec at c

-- the runs of the whole on the kept variables are runs of the slice, where inputs to dropped variables are left out
pub record SameRuns : Type 0 where
  pub valid : (spec slice : Data) (keep : List ℕ) (inputs : List Input) → IsKeepable spec keep → IsSlice spec keep slice → AreValid spec inputs → AreValid slice (kept_inputs keep inputs)
  pub runs : (spec slice : Data) (order : Order) (keep : List ℕ) (inputs : List Input) (states : List Codes) → PassesChecks spec order → IsKeepable spec keep → IsSlice spec keep slice
      → IsRun spec inputs states → IsRun slice (kept_inputs keep inputs) (kept_states keep inputs states)
  -- at an input to a dropped variable no kept variable changes
  pub still : (spec : Data) (order : Order) (keep : List ℕ) (old : Codes) (input : Input) (new : Codes) → PassesChecks spec order → IsKeepable spec keep → IsConsistent spec old
      → IsStep spec old input new → is_among keep input.variable ≡ false → kept_codes keep new ≡ kept_codes keep old

-- what is kept for declared names is closed and declared
pub record KeptIsKeepable : Type 0 where
  pub keepable : (spec : Data) (names keep : List ℕ) → IsSound spec → HoldsEach names (λ v. nat_lt v (length spec.variables)) → AreKept spec names keep → IsKeepable spec keep

-- a slice of a sound specification is sound
pub record SliceIsSound : Type 0 where
  pub sound : (spec slice : Data) (keep : List ℕ) → IsSound spec → IsKeepable spec keep → IsSlice spec keep slice → IsSound slice

-- a slice of what passed all checks passes them: it is acyclic, and each of its tables is disjoint, covering where that is required, and in range
pub record SliceMeetsChecks : Type 0 where
  pub passes : (spec slice : Data) (order : Order) (keep : List ℕ) → PassesChecks spec order → IsKeepable spec keep → IsSlice spec keep slice
      → (own_order : Order) × PassesChecks slice own_order

-- names keep one list, and a list has one slice
pub record OneSlice : Type 0 where
  pub kept : (spec : Data) (names keep other : List ℕ) → AreKept spec names keep → AreKept spec names other → keep ≡ other
  pub slice : (spec : Data) (keep : List ℕ) (slice other : Data) → IsSlice spec keep slice → IsSlice spec keep other → slice ≡ other
