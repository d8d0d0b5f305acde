use Rattle.cli.proofs.Printed.{printed_replay}
use Rattle.cli.proofs.top.printed_replay.Goals as goal

pub returns : goal.returns
returns c = printed_replay
