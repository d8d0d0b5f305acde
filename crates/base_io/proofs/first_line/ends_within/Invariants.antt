use Rattle.std.proofs.Common.{◌≡◌, ◌≤◌, ◌+◌, ◌-◌}
use Rattle.base_io.specs.Outside.{TakesAtMost}
use Rattle.base_io.proofs.LineLemmas.{EndsAlike}
use Rattle.base_io.proofs.first_line.ends_within.Given as goal

abbrev pub invariant-loop-count : goal.invariant-loop-count
invariant-loop-count g l = record {
  from : l.initial.count ≤ l.count;
  within : l.count ≤ l.room + 1;
  alike : EndsAlike l.initial.count (g.S.Shelf.left l.initial.shelf) l.count (g.S.Shelf.left l.shelf);
  taken : TakesAtMost (l.count - l.initial.count) (g.S.Shelf.left l.initial.shelf) (g.S.Shelf.left l.shelf);
  later : g.S.Shelf.faults l.initial.shelf ≤ g.S.Shelf.faults l.shelf;
  same_contents : g.S.Shelf.contents l.shelf ≡ g.S.Shelf.contents l.initial.shelf;
  steady_on : g.S.Shelf.steady l.initial.shelf → g.S.Shelf.steady l.shelf;
}

abbrev pub decreases-loop-count : goal.decreases-loop-count
decreases-loop-count g l = l.room + 1 - l.count
