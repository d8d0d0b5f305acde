use Rattle.std.proofs.Common.{◌≡◌, drop}
use Rattle.scr_scope.specs.First.{first_in}
use Rattle.scr_scope.specs.Sides.{unknown_item}
use Rattle.scr_scope.proofs.known.Known.unknown_side.Given as goal

abbrev pub invariant-loop-item : goal.invariant-loop-item
invariant-loop-item l = first_in (unknown_item l.self) (drop l.item-index l.item-items) ≡ first_in (unknown_item l.self) l.item-items
