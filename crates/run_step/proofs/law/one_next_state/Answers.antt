use Rattle.run_step.proofs.Runs.{one_next_state}
use Rattle.run_step.proofs.law.one_next_state.Goals as goal

pub returns : goal.returns
returns c = one_next_state
