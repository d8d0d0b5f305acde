use Rattle.std.proofs.Common.{◌≡◌}
use Rattle.std.specs.List.{filter, range_with_len}
use Rattle.scr_spec.specs.Shown.{data_of}
use Rattle.scr_spec.specs.Relations.{is_monitored}
use Rattle.prove_invariants.proofs.trial.monitored.Given as goal

abbrev pub invariant-loop-v : goal.invariant-loop-v
invariant-loop-v l = l.out ≡ filter (is_monitored (data_of l.spec)) (range_with_len 0 l.v)
