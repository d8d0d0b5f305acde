use Rattle.std.proofs.Common.{◌≡◌}
use Rattle.run_broken.specs.Slices.{mentioned_below}
use Rattle.run_broken.proofs.piece.mentioned.Given as goal

abbrev pub invariant-loop-w : goal.invariant-loop-w
invariant-loop-w l = l.list ≡ mentioned_below l.w l.cond
