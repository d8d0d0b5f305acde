use Rattle.std.proofs.Common.{◌≡◌, not, None, find, take}
use Rattle.scr_depend.specs.Marks.{is_marked}
use Rattle.scr_slice.proofs.closure.first_unmarked.Given as goal

abbrev pub invariant-loop-w : goal.invariant-loop-w
invariant-loop-w l = find (λ w. not (is_marked l.marks w)) (take l.w-index l.list) ≡ None
