use Rattle.run_broken.proofs.Answers.{one_break}
use Rattle.run_broken.proofs.law.one_break.Goals as goal

pub returns : goal.returns
returns c = one_break
