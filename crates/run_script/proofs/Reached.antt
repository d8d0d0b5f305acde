-- The states of a simulator are states of runs.
use Rattle.std.proofs.Common.{◌≡◌, [], ◌∷◌, ◌++◌, length}
use Rattle.std.proofs.Props.{props}
use Rattle.std.proofs.Math.Logic.{∥∥₁_elim, ∥∥₁_prop}
use Rattle.scr_spec.specs.Data.{Data}
use Rattle.scr_spec.specs.declared.state.Input.{Input}
use Rattle.scr_spec.specs.Meaning.{Codes}
use Rattle.scr_spec.specs.Sound.{IsSound}
use Rattle.run_step.specs.Runs.{IsConsistent, IsInitial, IsStep, IsReached}
use Rattle.run_step.proofs.Runs.{ends_first, ends_next, ends_consistent}

consistent_prop : (spec : Data) (at : Codes) → IsProp (IsConsistent spec at)
consistent_prop spec at = hlevel props

pub reached_consistent : (spec : Data) (at : Codes) → IsSound spec → ∥ IsReached spec at ∥₁ → IsConsistent spec at
reached_consistent spec at sound r = ∥∥₁_elim r (consistent_prop spec at) (λ h. ends_consistent spec h.inputs at sound h.ends)

pub reached_first : (spec : Data) (first : Codes) → IsInitial spec first → ∥ IsReached spec first ∥₁
reached_first spec first h = ∣ record { inputs = []; ends = ends_first spec first h } ∣₁

pub reached_next : (spec : Data) (old : Codes) (input : Input) (new : Codes) → ∥ IsReached spec old ∥₁ → IsStep spec old input new → ∥ IsReached spec new ∥₁
reached_next spec old input new r s = ∥∥₁_elim r ∥∥₁_prop (λ h. ∣ record { inputs = h.inputs ++ input ∷ []; ends = ends_next spec h.inputs old input new h.ends s } ∣₁)

pub reached_places : (spec : Data) (at : Codes) → IsSound spec → ∥ IsReached spec at ∥₁ → length at ≡ length spec.variables
reached_places spec at sound r = (reached_consistent spec at sound r).typed.one_each
