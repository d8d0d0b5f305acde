use Rattle.std.proofs.Common.{◌≡◌, map, take}
use Rattle.scr_slice.specs.Slices.{number_in}
use Rattle.scr_slice.specs.Renumbered.{side_with}
use Rattle.scr_slice.proofs.renumbered.values.Given as goal

abbrev pub invariant-loop-value : goal.invariant-loop-value
invariant-loop-value l = l.new ≡ map (side_with (number_in l.keep)) (take l.value-index l.old)
