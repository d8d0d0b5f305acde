use Rattle.cmd_generate.proofs.Offering.{right}
use Rattle.cmd_generate.proofs.command.GenerateCommand.is_right.Goals as goal

pub returns : goal.returns
returns c = right
