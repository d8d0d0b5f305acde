use Rattle.std.proofs.Common.{◌≡◌, map, take}
use Rattle.scr_slice.specs.Slices.{number_in}
use Rattle.scr_slice.specs.Renumbered.{prim_with}
use Rattle.scr_slice.proofs.renumbered.event.Given as goal

abbrev pub invariant-loop-prim : goal.invariant-loop-prim
invariant-loop-prim l = l.prims ≡ map (prim_with (number_in l.keep)) (take l.prim-index l.prim-items)
