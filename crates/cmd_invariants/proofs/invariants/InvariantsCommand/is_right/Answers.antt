use Rattle.cmd_invariants.proofs.Offering.{right}
use Rattle.cmd_invariants.proofs.invariants.InvariantsCommand.is_right.Goals as goal

pub returns : goal.returns
returns c = right
