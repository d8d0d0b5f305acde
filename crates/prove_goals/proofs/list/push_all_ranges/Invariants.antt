use Rattle.std.proofs.Common.{◌≡◌, ◌++◌, map}
use Rattle.std.specs.List.{filter, flat_map, range_with_len}
use Rattle.scr_spec.specs.Shown.{data_of}
use Rattle.prove_goals.specs.Goals.{range_goal, has_range}
use Rattle.prove_goals.proofs.list.push_all_ranges.Given as goal

abbrev pub invariant-loop-i : goal.invariant-loop-i
invariant-loop-i l = l.out ≡ l.initial.out ++ flat_map (λ i. map (range_goal l.row i) l.changes) (filter (has_range (data_of l.spec) l.table) (range_with_len 0 l.i))
