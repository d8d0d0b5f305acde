use Rattle.cmd_format.proofs.Formatting.{one_formatting}
use Rattle.cmd_format.proofs.law.one_formatting.Goals as goal

pub returns : goal.returns
returns c = one_formatting
