use Rattle.cmd_check.proofs.Checked.{some_checks}
use Rattle.cmd_check.proofs.check.CheckOneFile.most_bytes.Goals as goal

pub returns-clause-some_answer : goal.returns-clause-some_answer
returns-clause-some_answer c = some_checks c.args.self.now.limit
