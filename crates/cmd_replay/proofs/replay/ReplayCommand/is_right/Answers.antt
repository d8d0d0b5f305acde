use Rattle.cmd_replay.proofs.Offering.{right}
use Rattle.cmd_replay.proofs.replay.ReplayCommand.is_right.Goals as goal

pub returns : goal.returns
returns c = right
