use Rattle.std.proofs.Common.{◌≡◌, ◌<◌, length, get_or, refl, subst, w64, to_z, of_z}
use Rattle.prove_candidates.specs.Told.{row_entries}
use Rattle.prove_candidates.proofs.Entries.{entries_none, entries_next_of}
use Rattle.prove_candidates.proofs.entry.add_entries.Goals as goal

pub loop-row-init : goal.loop-row-init
loop-row-init c = entries_none c.args.told.now c.args.told.now refl

pub loop-row-preserved : goal.loop-row-preserved
loop-row-preserved c =
    entries_next_of (row_entries (to_z w64 (of_z w64 c.args.mode))) c.args.told.now c.loop-row.told c.add_row.new.told c.args.table.now.rows c.loop-row.row-index c.row-item.result
    (subst (λ rows. c.loop-row.row-index < length rows) c.as_slice-row-items.ensures c.loop-row-test.true)
    (subst (λ rows. c.row-item.result ≡ get_or rows c.loop-row.row-index c.row-item.result) c.as_slice-row-items.ensures c.row-item.is)
    c.loop-row.invariant
    c.in_ok-add_row.ensures
