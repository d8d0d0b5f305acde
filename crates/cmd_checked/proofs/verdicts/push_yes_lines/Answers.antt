use Rattle.scr_spec.specs.Shown.{data_of}
use Rattle.cmd_checked.proofs.Lines.{yes_more, yes_end}
use Rattle.cmd_checked.proofs.verdicts.push_yes_lines.Goals as goal

pub loop-table-preserved : goal.loop-table-preserved
loop-table-preserved c =
    yes_more (data_of c.args.spec.now) c.loop-table.table-index c.table-item.result _ _ _ (rw c.as_slice-table-items.ensures at c.loop-table-test.true)
    (rw c.as_slice-table-items.ensures at c.table-item.is) c.in_ok-push_verdict.ensures c.loop-table.invariant

pub returns : goal.returns
returns c =
    yes_end (data_of c.args.spec.now) c.loop-table.table-index _ _ (rw c.as_slice-table-items.ensures at c.loop-table-test.false) c.loop-table.invariant
