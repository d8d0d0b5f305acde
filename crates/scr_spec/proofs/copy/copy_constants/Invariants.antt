use Rattle.std.proofs.Common.{◌≡◌, take}
use Rattle.scr_spec.proofs.copy.copy_constants.Given as goal

abbrev pub invariant-loop-constant : goal.invariant-loop-constant
invariant-loop-constant l = l.copy ≡ take l.constant-index l.constants
