use Rattle.cli.proofs.Printed.{printed_states}
use Rattle.cli.proofs.top.printed_states.Goals as goal

pub returns : goal.returns
returns c = printed_states
