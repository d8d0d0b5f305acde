use Rattle.std.proofs.Common.{◌≡◌, None, take}
use Rattle.run_broken.specs.Dropped.{first_dropped}
use Rattle.run_broken.proofs.outside.first_dropped.Given as goal

abbrev pub invariant-loop-input : goal.invariant-loop-input
invariant-loop-input l = first_dropped l.keep (take l.input-index l.inputs) ≡ None
