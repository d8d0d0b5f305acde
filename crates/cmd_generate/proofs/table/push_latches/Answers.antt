use Rattle.cmd_generate.specs.Chain.{next_latch_text}
use Rattle.cmd_generate.proofs.Lines.{texts_more}
use Rattle.cmd_generate.proofs.table.push_latches.Goals as goal

pub loop-j-preserved : goal.loop-j-preserved
loop-j-preserved c = texts_more next_latch_text _ _ _ _ c.in_ok-push_next_latch.ensures c.loop-j.invariant
