use Rattle.std.proofs.Common.{refl, w64, to_z, of_z}
use Rattle.prove_candidates.specs.Told.{column_entries}
use Rattle.prove_candidates.proofs.Entries.{entries_none, entries_next_column}
use Rattle.prove_candidates.proofs.entry.add_row.Goals as goal

pub loop-column-init : goal.loop-column-init
loop-column-init c = entries_none c.args.told.now c.args.told.now refl

pub loop-column-preserved : goal.loop-column-preserved
loop-column-preserved c =
    entries_next_column (column_entries (to_z w64 (of_z w64 c.args.mode)) c.args.row.now) c.args.told.now c.loop-column.told c.add_column.new.told c.loop-column.column c.loop-column.invariant
    c.in_ok-add_column.ensures
