use Rattle.std.proofs.Common.{◌≡◌, drop}
use Rattle.scr_scope.specs.First.{first_in}
use Rattle.scr_scope.specs.Events.{unknown_prim}
use Rattle.scr_scope.proofs.known.Known.unknown_event.Given as goal

abbrev pub invariant-loop-prim : goal.invariant-loop-prim
invariant-loop-prim l = first_in (unknown_prim l.self) (drop l.prim-index l.prim-items) ≡ first_in (unknown_prim l.self) l.prim-items
