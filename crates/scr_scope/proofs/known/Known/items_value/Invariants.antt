use Rattle.std.proofs.Common.{◌≡◌, ◌*◌, ◌≤◌, take, drop, map, [], pos, IsTrue}
use Rattle.std.specs.List.{list_all}
use Rattle.std.specs.Prelude.{fold, ◌+ℤ◌, unsigned_abs}
use Rattle.scr_spec.specs.Meaning.{item_value}
use Rattle.scr_scope.specs.Meanings.{seen}
use Rattle.scr_scope.specs.Sides.{item_of, is_narrow_item}
use Rattle.scr_scope.proofs.known.Known.items_value.Given as goal

abbrev pub invariant-loop-item : goal.invariant-loop-item
invariant-loop-item l = record {
  value : l.sum ≡ fold (λ sum item. sum +ℤ item_value (seen l.self) [] [] item) (pos 0) (map (item_of l.self) (take l.item-index l.items));
  factors : IsTrue (list_all is_narrow_item (drop l.item-index l.items));
  bounded : unsigned_abs l.sum ≤ l.item-index * 4294967296000000;
}
