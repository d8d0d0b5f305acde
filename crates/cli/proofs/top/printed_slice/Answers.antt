use Rattle.cli.proofs.Printed.{printed_slice}
use Rattle.cli.proofs.top.printed_slice.Goals as goal

pub returns : goal.returns
returns c = printed_slice
