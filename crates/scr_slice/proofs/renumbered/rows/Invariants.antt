use Rattle.std.proofs.Common.{◌≡◌, map, take}
use Rattle.scr_slice.specs.Slices.{number_in}
use Rattle.scr_slice.specs.Renumbered.{row_with}
use Rattle.scr_slice.proofs.renumbered.rows.Given as goal

abbrev pub invariant-loop-it : goal.invariant-loop-it
invariant-loop-it l = l.new ≡ map (row_with (number_in l.keep)) (take l.it-index l.old)
