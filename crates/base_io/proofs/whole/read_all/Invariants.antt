use Rattle.std.proofs.Common.{◌≡◌, ◌≤◌, ◌+◌, ◌-◌, vec_len}
use Rattle.std.specs.Io.KnownBytes.{Consumes}
use Rattle.base_io.proofs.whole.read_all.Given as goal

abbrev pub invariant-loop-piece : goal.invariant-loop-piece
invariant-loop-piece g l = record {
  within : vec_len l.all ≤ l.limit + 1;
  took : Consumes (g.S.Shelf.left l.initial.shelf) (g.S.Shelf.left l.shelf) l.all.items;
  later : g.S.Shelf.faults l.initial.shelf ≤ g.S.Shelf.faults l.shelf;
  same_contents : g.S.Shelf.contents l.shelf ≡ g.S.Shelf.contents l.initial.shelf;
  steady_on : g.S.Shelf.steady l.initial.shelf → g.S.Shelf.steady l.shelf;
}

abbrev pub decreases-loop-piece : goal.decreases-loop-piece
decreases-loop-piece g l = l.limit + 1 - vec_len l.all
