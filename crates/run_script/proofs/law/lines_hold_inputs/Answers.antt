use Rattle.run_script.proofs.Inputs.{lines_hold_inputs}
use Rattle.run_script.proofs.law.lines_hold_inputs.Goals as goal

pub returns : goal.returns
returns c = lines_hold_inputs
