use Rattle.std.proofs.Common.{◌≡◌, ◌++◌, take, map}
use Rattle.prove_goals.specs.Goals.{disjoint_goal}
use Rattle.prove_goals.proofs.list.push_disjoint.Given as goal

abbrev pub invariant-loop-changed : goal.invariant-loop-changed
invariant-loop-changed l = l.out ≡ l.initial.out ++ map (disjoint_goal l.row l.i l.j) (take l.changed-index l.changes)
