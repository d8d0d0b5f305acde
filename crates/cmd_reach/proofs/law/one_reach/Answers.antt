use Rattle.cmd_reach.proofs.Files.{one_reach}
use Rattle.cmd_reach.proofs.law.one_reach.Goals as goal

pub returns : goal.returns
returns c = one_reach
