use Rattle.cli.proofs.Printed.{printed_counts}
use Rattle.cli.proofs.top.printed_counts.Goals as goal

pub returns : goal.returns
returns c = printed_counts
