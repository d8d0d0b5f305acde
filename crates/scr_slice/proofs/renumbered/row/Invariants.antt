use Rattle.std.proofs.Common.{◌≡◌, map, take}
use Rattle.scr_slice.specs.Slices.{number_in}
use Rattle.scr_slice.specs.Renumbered.{cell_with}
use Rattle.scr_slice.proofs.renumbered.row.Given as goal

abbrev pub invariant-loop-it : goal.invariant-loop-it
invariant-loop-it l = l.cells ≡ map (cell_with (number_in l.keep)) (take l.it-index l.it-items)
