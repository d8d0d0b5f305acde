use Rattle.std.proofs.Common.{◌≡◌, drop}
use Rattle.scr_scope.specs.First.{first_in}
use Rattle.scr_scope.specs.Sides.{unknown_side}
use Rattle.scr_resolve.proofs.line.unknown_values.Given as goal

abbrev pub invariant-loop-side : goal.invariant-loop-side
invariant-loop-side l = first_in (unknown_side l.known) (drop l.side-index l.sides) ≡ first_in (unknown_side l.known) l.sides
