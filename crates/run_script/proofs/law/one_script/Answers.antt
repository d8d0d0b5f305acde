use Rattle.run_script.proofs.Whole.{one_script}
use Rattle.run_script.proofs.law.one_script.Goals as goal

pub returns : goal.returns
returns c = one_script
