use Rattle.std.specs.List.{flat_map, range_with_len}
use Rattle.prove_candidates.specs.Told.{column_entries}
use Rattle.prove_candidates.specs.Steps.{AddsEntries}
use Rattle.prove_candidates.proofs.entry.add_row.Given as goal

abbrev pub invariant-loop-column : goal.invariant-loop-column
invariant-loop-column l = AddsEntries l.initial.told (flat_map (column_entries l.fn.mode l.row) (range_with_len 0 l.column)) l.told
