use Rattle.run_reach.proofs.Existing.{one_answer}
use Rattle.run_reach.proofs.law.one_answer.Goals as goal

pub returns : goal.returns
returns c = one_answer
