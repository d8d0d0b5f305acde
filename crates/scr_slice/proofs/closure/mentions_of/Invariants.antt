use Rattle.std.proofs.Common.{◌≡◌}
use Rattle.scr_slice.specs.Marks.{mentions_below}
use Rattle.scr_slice.proofs.closure.mentions_of.Given as goal

abbrev pub invariant-loop-w : goal.invariant-loop-w
invariant-loop-w l = l.list ≡ mentions_below l.w l.table
