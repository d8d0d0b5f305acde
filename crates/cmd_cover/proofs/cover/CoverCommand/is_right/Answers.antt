use Rattle.cmd_cover.proofs.Offering.{right}
use Rattle.cmd_cover.proofs.cover.CoverCommand.is_right.Goals as goal

pub returns : goal.returns
returns c = right
