use Rattle.std.proofs.Common.{◌≡◌}
use Rattle.scr_spec.specs.Shown.{data_of}
use Rattle.scr_slice.specs.Marks.{lists_below}
use Rattle.scr_slice.proofs.closure.mention_lists.Given as goal

abbrev pub invariant-loop-v : goal.invariant-loop-v
invariant-loop-v l = l.lists ≡ lists_below l.v (data_of l.spec)
