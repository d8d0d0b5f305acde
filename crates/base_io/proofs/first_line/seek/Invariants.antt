use Rattle.std.proofs.Common.{◌≡◌, ◌≤◌, ◌+◌, ◌-◌, vec_len, vec_capacity}
use Rattle.base_io.specs.Line.{Grows}
use Rattle.base_io.specs.declared.first_line.TheConstants.{LINE_ROOM}
use Rattle.base_io.proofs.first_line.seek.Given as goal

abbrev pub invariant-search : goal.invariant-search
invariant-search g l = record {
  grows : Grows l.initial.buf.items l.buf.items (g.S.Shelf.left l.initial.shelf) (g.S.Shelf.left l.shelf);
  within : vec_len l.buf ≤ l.room + 1;
  capacity : LINE_ROOM ≤ vec_capacity l.buf;
  later : g.S.Shelf.faults l.initial.shelf ≤ g.S.Shelf.faults l.shelf;
  same_contents : g.S.Shelf.contents l.shelf ≡ g.S.Shelf.contents l.initial.shelf;
  steady_on : g.S.Shelf.steady l.initial.shelf → g.S.Shelf.steady l.shelf;
}

abbrev pub decreases-search : goal.decreases-search
decreases-search g l = l.room + 1 - vec_len l.buf
