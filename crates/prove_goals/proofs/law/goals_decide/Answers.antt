use Rattle.prove_goals.proofs.Decide.{goals_decide}
use Rattle.prove_goals.proofs.law.goals_decide.Goals as goal

pub returns : goal.returns
returns c = goals_decide
