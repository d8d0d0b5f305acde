use Rattle.cmd_runc.proofs.Offering.{right}
use Rattle.cmd_runc.proofs.command.RunCCommand.is_right.Goals as goal

pub returns : goal.returns
returns c = right
