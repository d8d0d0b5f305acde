use Rattle.cmd_format.proofs.Offering.{right}
use Rattle.cmd_format.proofs.format.FormatCommand.is_right.Goals as goal

pub returns : goal.returns
returns c = right
