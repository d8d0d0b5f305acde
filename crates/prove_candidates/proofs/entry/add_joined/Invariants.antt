use Rattle.std.proofs.Common.{take}
use Rattle.prove_candidates.specs.Steps.{AddsEntries}
use Rattle.prove_candidates.proofs.entry.add_joined.Given as goal

abbrev pub invariant-loop-prim : goal.invariant-loop-prim
invariant-loop-prim l = AddsEntries l.initial.told (take l.prim-index l.prims) l.told
