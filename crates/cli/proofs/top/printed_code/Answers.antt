use Rattle.cli.proofs.Printed.{printed_code}
use Rattle.cli.proofs.top.printed_code.Goals as goal

pub returns : goal.returns
returns c = printed_code
