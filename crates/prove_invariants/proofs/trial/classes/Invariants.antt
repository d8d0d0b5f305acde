use Rattle.std.proofs.Common.{◌≡◌}
use Rattle.std.specs.List.{filter, range_with_len}
use Rattle.scr_spec.specs.Shown.{data_of}
use Rattle.scr_spec.specs.Tables.{is_class_at}
use Rattle.prove_invariants.proofs.trial.classes.Given as goal

abbrev pub invariant-loop-v : goal.invariant-loop-v
invariant-loop-v l = l.out ≡ filter (is_class_at (data_of l.spec)) (range_with_len 0 l.v)
