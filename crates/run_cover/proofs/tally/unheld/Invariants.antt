use Rattle.std.proofs.Common.{◌≡◌, map}
use Rattle.std.specs.List.{flat_map, range_with_len}
use Rattle.scr_spec.specs.Shown.{data_of}
use Rattle.run_cover.specs.Cells.{numbered_cells}
use Rattle.run_cover.specs.Counts.{counted}
use Rattle.run_cover.proofs.tally.unheld.Given as goal

abbrev pub invariant-loop-number : goal.invariant-loop-number
invariant-loop-number l = l.counts ≡ map (λ cell. counted cell 0) (flat_map (numbered_cells (data_of l.spec)) (range_with_len 0 l.number))
