use Rattle.cmd_checked.proofs.Checks.{one_checking}
use Rattle.cmd_checked.proofs.law.one_checking.Goals as goal

pub returns : goal.returns
returns c = one_checking
