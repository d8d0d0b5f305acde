use Rattle.scr_slice.specs.Marks.{IsSpreading}
use Rattle.scr_slice.proofs.Marks.{unmarked}
use Rattle.scr_slice.proofs.closure.spread.Given as goal

abbrev pub invariant-loop-w : goal.invariant-loop-w
invariant-loop-w l = IsSpreading l.lists l.fn.marks l.marks

abbrev pub decreases-loop-w : goal.decreases-loop-w
decreases-loop-w l = unmarked l.marks
