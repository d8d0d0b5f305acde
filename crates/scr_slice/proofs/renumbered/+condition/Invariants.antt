use Rattle.std.proofs.Common.{◌≡◌, map, take}
use Rattle.scr_slice.specs.Slices.{number_in}
use Rattle.scr_slice.specs.Renumbered.{cond_with}
use Rattle.scr_slice.proofs.renumbered.+condition.Given as goal

abbrev pub invariant-conditions-loop-c : goal.invariant-conditions-loop-c
invariant-conditions-loop-c l = l.new ≡ map (cond_with (number_in l.keep)) (take l.c-index l.cs)
