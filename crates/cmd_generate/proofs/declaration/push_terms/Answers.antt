use Rattle.cmd_generate.specs.Chain.{term_line}
use Rattle.cmd_generate.proofs.Lines.{texts_more}
use Rattle.cmd_generate.proofs.declaration.push_terms.Goals as goal

pub loop-k-preserved : goal.loop-k-preserved
loop-k-preserved c = texts_more term_line _ _ _ _ c.in_ok-push_term.ensures c.loop-k.invariant
