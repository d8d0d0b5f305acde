use Rattle.std.proofs.Common.{◌≡◌, ◌+◌, ◌≤◌, drop, map}
use Rattle.std.specs.Prelude.{sum_by}
use Rattle.scr_spec.specs.Over.{item_bound}
use Rattle.scr_scope.specs.Meanings.{seen}
use Rattle.scr_scope.specs.Sides.{item_of}
use Rattle.scr_scope.proofs.known.Known.is_narrow_side.Given as goal

abbrev pub invariant-loop-item : goal.invariant-loop-item
invariant-loop-item l = record {
  counted : l.sum + sum_by (item_bound (seen l.self)) (map (item_of l.self) (drop l.item-index l.item-items)) ≡ sum_by (item_bound (seen l.self)) (map (item_of l.self) l.item-items);
  narrow : l.sum ≤ 2000000000;
}
