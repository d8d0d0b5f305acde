use Rattle.cmd_simulate.proofs.Offering.{right}
use Rattle.cmd_simulate.proofs.simulate.SimulateCommand.is_right.Goals as goal

pub returns : goal.returns
returns c = right
