use Rattle.cmd_simulate.proofs.Files.{one_simulation}
use Rattle.cmd_simulate.proofs.law.one_simulation.Goals as goal

pub returns : goal.returns
returns c = one_simulation
