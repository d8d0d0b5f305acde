use Rattle.cmd_check.proofs.Offering.{right}
use Rattle.cmd_check.proofs.check.CheckCommand.is_right.Goals as goal

pub returns : goal.returns
returns c = right
