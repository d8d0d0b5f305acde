use Rattle.std.proofs.Common.{◌≡◌, take, map}
use Rattle.scr_scope.specs.Sides.{item_of}
use Rattle.scr_scope.proofs.known.Known.side_of.Given as goal

abbrev pub invariant-loop-item : goal.invariant-loop-item
invariant-loop-item l = l.items ≡ map (item_of l.self) (take l.item-index l.item-items)
