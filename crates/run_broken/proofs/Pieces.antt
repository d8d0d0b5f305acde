-- The slice of a specification that passed its checks passes them, too.
use Rattle.std.proofs.Common.{List, ℕ}
use Rattle.scr_spec.specs.Data.{Data}
use Rattle.scr_spec.specs.Sound.{IsSound}
use Rattle.scr_spec.specs.Shown.{data_of}
use Rattle.scr_depend.specs.declared.checked.Checked.{Checked}
use Rattle.scr_depend.specs.Dependencies.{graph_of}
use Rattle.scr_depend.specs.Results.{HasCycle}
use Rattle.scr_depend.specs.Meets.{AreRight}
use Rattle.scr_depend.specs.Passes.{PassesChecks}
use Rattle.scr_depend.proofs.SomeCycle.{order_or_cycle}
use Rattle.run_step.proofs.Order.{checked}
use Rattle.run_step.proofs.Runs.{one_next_state}
use Rattle.scr_slice.specs.Slices.{IsKeepable, IsSlice}
use Rattle.scr_slice.proofs.Lift.{right_kept}
use Rattle.scr_slice.proofs.Passes.{all_right}
use Rattle.scr_slice.proofs.SliceLaws.{slice_meets_checks}

passes : (k : Checked) → PassesChecks (data_of k.spec) k.order
passes k = record { sound = k.spec.sound; ordered = k.ordered; right = k.right }

module _ (whole : Checked) (keep : List ℕ) (slice : Data) (can : IsKeepable (data_of whole.spec) keep) (is : IsSlice (data_of whole.spec) keep slice) where
  pub slice_right : IsSound slice → AreRight slice
  slice_right own =
      let spec = data_of whole.spec in
      let first = one_next_state.initial spec whole.order (passes whole) in
      all_right slice own (right_kept spec keep slice is can whole.spec.sound own first.0 first.1.typed (λ v t found. checked spec v t whole.right found))

  pub no_cycle : (cycle : List ℕ) → HasCycle (graph_of slice) cycle → ⊥
  no_cycle cycle has =
      let own = slice_meets_checks.passes (data_of whole.spec) slice whole.order keep (passes whole) can is in
      order_or_cycle.apart slice own.0.list cycle own.1.ordered.ordered has
