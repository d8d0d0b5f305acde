use Rattle.std.proofs.Common.{◌≡◌, ◌++◌, take, map}
use Rattle.prove_goals.specs.Goals.{range_goal}
use Rattle.prove_goals.proofs.list.push_range.Given as goal

abbrev pub invariant-loop-changed : goal.invariant-loop-changed
invariant-loop-changed l = l.out ≡ l.initial.out ++ map (range_goal l.row l.i) (take l.changed-index l.changes)
