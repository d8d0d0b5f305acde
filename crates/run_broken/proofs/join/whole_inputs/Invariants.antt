use Rattle.std.proofs.Common.{◌≡◌, take}
use Rattle.run_broken.specs.Slices.{whole_inputs}
use Rattle.run_broken.proofs.join.whole_inputs.Given as goal

abbrev pub invariant-loop-input : goal.invariant-loop-input
invariant-loop-input l = l.whole ≡ whole_inputs l.keep (take l.input-index l.script)
