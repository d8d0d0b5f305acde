use Rattle.cmd_reach.proofs.Offering.{right}
use Rattle.cmd_reach.proofs.reach.ReachCommand.is_right.Goals as goal

pub returns : goal.returns
returns c = right
