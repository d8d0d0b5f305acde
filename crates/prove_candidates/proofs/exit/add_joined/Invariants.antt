use Rattle.std.proofs.Common.{take}
use Rattle.prove_candidates.specs.Steps.{AddsExits}
use Rattle.prove_candidates.proofs.exit.add_joined.Given as goal

abbrev pub invariant-loop-prim : goal.invariant-loop-prim
invariant-loop-prim l = AddsExits l.initial.out (take l.prim-index l.prims) l.out
