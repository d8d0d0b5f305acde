use Rattle.std.proofs.Common.{◌≡◌, take, map}
use Rattle.scr_scope.specs.Events.{prim_of}
use Rattle.scr_scope.proofs.known.Known.event_of.Given as goal

abbrev pub invariant-loop-prim : goal.invariant-loop-prim
invariant-loop-prim l = l.prims ≡ map (prim_of l.self) (take l.prim-index l.prim-items)
