use Rattle.std.proofs.Common.{◌≡◌}
use Rattle.scr_slice.specs.Marks.{marked_below}
use Rattle.scr_slice.proofs.closure.marked.Given as goal

abbrev pub invariant-loop-v : goal.invariant-loop-v
invariant-loop-v l = l.list ≡ marked_below l.v l.marks
