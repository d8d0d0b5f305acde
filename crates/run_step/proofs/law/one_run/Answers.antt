use Rattle.run_step.proofs.Runs.{one_run}
use Rattle.run_step.proofs.law.one_run.Goals as goal

pub returns : goal.returns
returns c = one_run
