use Rattle.cmd_replay.proofs.Files.{one_replay}
use Rattle.cmd_replay.proofs.law.one_replay.Goals as goal

pub returns : goal.returns
returns c = one_replay
