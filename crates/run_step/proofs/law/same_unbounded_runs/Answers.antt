use Rattle.run_step.proofs.Runs.{same_unbounded_runs}
use Rattle.run_step.proofs.law.same_unbounded_runs.Goals as goal

pub returns : goal.returns
returns c = same_unbounded_runs
