use Rattle.std.proofs.Common.{◌≡◌, ◌++◌, map}
use Rattle.std.specs.List.{flat_map, range_with_len}
use Rattle.run_cover.specs.Cells.{row_cells, width}
use Rattle.run_cover.specs.Counts.{counted}
use Rattle.run_cover.proofs.tally.push_table.Given as goal

abbrev pub invariant-loop-row : goal.invariant-loop-row
invariant-loop-row l = l.counts ≡ l.fn.counts ++ map (λ cell. counted cell 0) (flat_map (λ row. row_cells l.number row (width l.table row)) (range_with_len 0 l.row))
