use Rattle.cmd_slice.proofs.Offering.{right}
use Rattle.cmd_slice.proofs.slicing.SliceCommand.is_right.Goals as goal

pub returns : goal.returns
returns c = right
