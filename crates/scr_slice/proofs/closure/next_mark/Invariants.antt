use Rattle.std.proofs.Common.{◌≡◌, ℕ, ◌<◌, None}
use Rattle.scr_slice.specs.Marks.{next_of}
use Rattle.scr_slice.proofs.closure.next_mark.Given as goal

abbrev pub invariant-loop-v : goal.invariant-loop-v
invariant-loop-v l = (u : ℕ) → u < l.v → next_of l.lists l.marks u ≡ None
