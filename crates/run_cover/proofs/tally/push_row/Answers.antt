use Rattle.std.proofs.Common.{◌∙◌}
use Rattle.run_cover.proofs.Listed.{row_more}
use Rattle.run_cover.proofs.tally.push_row.Goals as goal

pub loop-column-preserved : goal.loop-column-preserved
loop-column-preserved c = c.in_ok-push.ensures.ok ∙ row_more c.args.counts.now c.loop-column.counts c.args.table c.args.row c.loop-column.column c.loop-column.invariant
