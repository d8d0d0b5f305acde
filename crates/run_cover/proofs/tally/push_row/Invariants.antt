use Rattle.std.proofs.Common.{◌≡◌, ◌++◌, map}
use Rattle.run_cover.specs.Cells.{row_cells}
use Rattle.run_cover.specs.Counts.{counted}
use Rattle.run_cover.proofs.tally.push_row.Given as goal

abbrev pub invariant-loop-column : goal.invariant-loop-column
invariant-loop-column l = l.counts ≡ l.fn.counts ++ map (λ cell. counted cell 0) (row_cells l.table l.row l.column)
