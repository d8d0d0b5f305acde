use Rattle.cmd_emit.proofs.Offering.{right}
use Rattle.cmd_emit.proofs.emit.EmitCommand.is_right.Goals as goal

pub returns : goal.returns
returns c = right
