use Rattle.std.proofs.Common.{take}
use Rattle.std.specs.List.{flat_map}
use Rattle.prove_candidates.specs.Told.{row_entries}
use Rattle.prove_candidates.specs.Steps.{AddsEntries}
use Rattle.prove_candidates.proofs.entry.add_entries.Given as goal

abbrev pub invariant-loop-row : goal.invariant-loop-row
invariant-loop-row l = AddsEntries l.initial.told (flat_map (row_entries l.fn.mode) (take l.row-index l.table.rows)) l.told
