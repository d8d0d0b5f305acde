use Rattle.std.proofs.Common.{◌≡◌, drop, IsTrue}
use Rattle.std.specs.List.{list_all}
use Rattle.scr_scope.specs.Sides.{is_value_within}
use Rattle.scr_resolve.specs.Lines.{is_small_side}
use Rattle.scr_resolve.proofs.shape.are_within.Given as goal

abbrev pub invariant-loop-side : goal.invariant-loop-side
invariant-loop-side l = record {
  small : IsTrue (list_all is_small_side (drop l.side-index l.sides));
  within : list_all (is_value_within l.known l.v) (drop l.side-index l.sides) ≡ list_all (is_value_within l.known l.v) l.sides;
}
