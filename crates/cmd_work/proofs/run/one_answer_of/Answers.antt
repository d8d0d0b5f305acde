use Rattle.cmd_work.proofs.RunLemmas.{one_of}
use Rattle.cmd_work.proofs.run.one_answer_of.Goals as goal

pub returns : goal.returns
returns g c = one_of g.C.Command.takes c.is_right.ensures
