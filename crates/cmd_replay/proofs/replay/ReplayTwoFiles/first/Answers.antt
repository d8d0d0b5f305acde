use Rattle.cmd_checked.proofs.Scripts.{checked_first, own_first}
use Rattle.cmd_replay.specs.Replays.{ReplaysFile}
use Rattle.cmd_replay.proofs.replay.ReplayTwoFiles.first.Goals as goal

pub returns-clause-exact : goal.returns-clause-exact
returns-clause-exact c =
    rw c.into.ensures (checked_first ReplaysFile c.args.self.now.limit c.args.file _ c.in_ok-check_file.ensures.exact c.in_ok-check_file.ensures.ending)

pub returns-clause-own : goal.returns-clause-own
returns-clause-own c = rw c.into.ensures (own_first _ c.in_ok-check_file.ensures.ending)
