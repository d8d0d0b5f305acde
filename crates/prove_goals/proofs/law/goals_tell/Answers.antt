use Rattle.prove_goals.proofs.Decide.{goals_tell}
use Rattle.prove_goals.proofs.law.goals_tell.Goals as goal

pub returns : goal.returns
returns c = goals_tell
