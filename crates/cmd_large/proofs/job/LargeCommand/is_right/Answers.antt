use Rattle.cmd_large.proofs.Offering.{right}
use Rattle.cmd_large.proofs.job.LargeCommand.is_right.Goals as goal

pub returns : goal.returns
returns c = right
