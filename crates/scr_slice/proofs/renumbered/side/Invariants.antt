use Rattle.std.proofs.Common.{◌≡◌, map, take}
use Rattle.scr_slice.specs.Slices.{number_in}
use Rattle.scr_slice.specs.Renumbered.{item_with}
use Rattle.scr_slice.proofs.renumbered.side.Given as goal

abbrev pub invariant-loop-i : goal.invariant-loop-i
invariant-loop-i l = l.items ≡ map (item_with (number_in l.keep)) (take l.i-index l.i-items)
