use Rattle.cmd_large.proofs.Once.{one_summary}
use Rattle.cmd_large.proofs.law.one_summary.Goals as goal

pub returns : goal.returns
returns c = one_summary
