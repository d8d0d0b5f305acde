use Rattle.std.proofs.Common.{◌≡◌}
use Rattle.scr_slice.specs.Marks.{named_below}
use Rattle.scr_slice.proofs.closure.marks_of.Given as goal

abbrev pub invariant-loop-v : goal.invariant-loop-v
invariant-loop-v l = l.marks ≡ named_below l.v l.names
