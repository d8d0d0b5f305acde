use Rattle.cli_scrx.proofs.Printed.{printed_reached}
use Rattle.cli_scrx.proofs.top.printed_reached.Goals as goal

pub returns : goal.returns
returns c = printed_reached
