use Rattle.std.proofs.Common.{◌≡◌, take}
use Rattle.scr_spec.proofs.copy.copy_types.Given as goal

abbrev pub invariant-loop-declared : goal.invariant-loop-declared
invariant-loop-declared l = l.copy ≡ take l.declared-index l.types
