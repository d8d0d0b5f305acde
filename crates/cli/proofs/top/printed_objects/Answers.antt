use Rattle.cli.proofs.Printed.{printed_objects}
use Rattle.cli.proofs.top.printed_objects.Goals as goal

pub returns : goal.returns
returns c = printed_objects
