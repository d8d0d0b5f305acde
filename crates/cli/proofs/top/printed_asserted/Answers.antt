use Rattle.cli.proofs.Printed.{printed_asserted}
use Rattle.cli.proofs.top.printed_asserted.Goals as goal

pub returns : goal.returns
returns c = printed_asserted
