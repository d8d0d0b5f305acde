use Rattle.cli.proofs.Printed.{printed_right}
use Rattle.cli.proofs.top.printed_right.Goals as goal

pub returns : goal.returns
returns c = printed_right
