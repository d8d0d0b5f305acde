use Rattle.cli.proofs.Printed.{printed_hold}
use Rattle.cli.proofs.top.printed_hold.Goals as goal

pub returns : goal.returns
returns c = printed_hold
