use Rattle.run_step.proofs.Runs.{steps_are_related}
use Rattle.run_step.proofs.law.steps_are_related.Goals as goal

pub returns : goal.returns
returns c = steps_are_related
