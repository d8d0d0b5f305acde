use Rattle.cmd_runc.proofs.Files.{one_answer_of_calls}
use Rattle.cmd_runc.proofs.law.one_answer_of_calls.Goals as goal

pub returns : goal.returns
returns c = one_answer_of_calls
