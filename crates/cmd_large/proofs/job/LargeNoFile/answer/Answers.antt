use Rattle.cmd_large.proofs.Once.{one_summary}
use Rattle.cmd_large.proofs.job.LargeNoFile.answer.Goals as goal

pub returns-clause-some_answer : goal.returns-clause-some_answer
returns-clause-some_answer c = one_summary.some c.args.self.now.last
