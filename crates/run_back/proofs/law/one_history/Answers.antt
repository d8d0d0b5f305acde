use Rattle.run_back.proofs.Lines.{one_history}
use Rattle.run_back.proofs.law.one_history.Goals as goal

pub returns : goal.returns
returns c = one_history
