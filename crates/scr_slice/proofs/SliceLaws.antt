-- The laws of slices.
use Rattle.scr_depend.proofs.Dependent.{one_order}
use Rattle.scr_depend.specs.Dependencies.{read_lists}
use Rattle.run_step.proofs.Order.{checked}
use Rattle.run_step.proofs.Order.{placed}
use Rattle.run_step.proofs.Runs.{one_next_state}
use Rattle.scr_slice.proofs.Checks.{circular_back}
use Rattle.scr_slice.proofs.Declared.{mentioned_within}
use Rattle.scr_slice.proofs.Lift.{right_kept}
use Rattle.scr_slice.proofs.Moved.{cond_moved}
use Rattle.scr_slice.proofs.One.{one_kept, one_slice as one_part}
use Rattle.scr_slice.proofs.Passes.{all_right}
use Rattle.scr_slice.proofs.Runs.{run_kept, valid_kept}
use Rattle.scr_slice.proofs.Sounds.{slice_sound}
use Rattle.scr_slice.proofs.Still.{no_change}
use Rattle.scr_slice.specs.Laws.{SameTruth, SameRuns, KeptIsKeepable, SliceIsSound, SliceMeetsChecks, OneSlice}
use Rattle.scr_spec.specs.Sound.{IsSound}
use Rattle.std.proofs.Common.{length}
use Rattle.std.proofs.Common.{refl}
use Rattle.std.proofs.lemmas.Bool.{lt-ltb, ltb-true}
use Rattle.std.specs.Prelude.{nat_lt}

pub same_truth : SameTruth
same_truth = record { truth = λ number spec other at moved d same h. cond_moved number spec other same at moved d h }

pub same_runs : SameRuns
same_runs = record {
  valid = λ spec slice keep inputs can is valid. valid_kept spec keep slice is can inputs valid;
  runs = λ spec slice order keep inputs states passes can is run. run_kept spec keep slice is can order passes inputs states run;
  still = λ spec order keep old input new passes can consistent step dropped.
      no_change spec keep order.list passes.sound (placed spec order.list passes.sound passes.ordered.ordered) passes.right can.closed can.declared old input new consistent step dropped;
}

pub kept_is_keepable : KeptIsKeepable
kept_is_keepable = record {
  keepable = λ spec names keep sound named kept. record {
    closed = kept.closed;
    in_order = kept.in_order;
    declared = λ v there. ltb-true v (length spec.variables)
        (kept.least (λ u. nat_lt u (length spec.variables)) named (λ u w inside mentioned. lt-ltb w (length spec.variables) (mentioned_within spec w sound u mentioned)) v there);
  };
}

pub slice_is_sound : SliceIsSound
slice_is_sound = record { sound = λ spec slice keep sound can is. slice_sound spec keep slice is can sound }

pub slice_meets_checks : SliceMeetsChecks
slice_meets_checks = record {
  passes = λ spec slice order keep passes can is.
      let own_sound : IsSound slice = slice_sound spec keep slice is can passes.sound in
      let first = one_next_state.initial spec order passes in
      let ordered = (one_order.exists slice own_sound).1
      (λ circular. (one_order.exists spec passes.sound).0 (order.list, passes.ordered.ordered) (circular_back spec keep slice is can passes.sound own_sound circular)) in (
        record { list = ordered.0; reads = read_lists slice },
        record {
          sound = own_sound;
          ordered = record { ordered = ordered.1; reads = refl };
          right = ∣ all_right slice own_sound (right_kept spec keep slice is can passes.sound own_sound first.0 first.1.typed (λ v t found. checked spec v t passes.right found)) ∣₁;
        },
      );
}

pub one_slice : OneSlice
one_slice = record { kept = one_kept; slice = one_part }
