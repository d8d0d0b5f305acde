use Rattle.std.proofs.Common.{◌≡◌, map}
use Rattle.std.specs.Prelude.{Some}
use Rattle.std.specs.List.{filter, range_with_len}
use Rattle.scr_spec.specs.Shown.{data_of}
use Rattle.scr_spec.specs.Relations.{is_monitored}
use Rattle.prove_goals.proofs.list.monitored_changes.Given as goal

abbrev pub invariant-loop-v : goal.invariant-loop-v
invariant-loop-v l = l.changes ≡ map (λ x. Some x) (filter (is_monitored (data_of l.spec)) (range_with_len 0 l.v))
