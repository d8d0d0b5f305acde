use Rattle.cmd_runc.proofs.Existence.{some_answer}
use Rattle.cmd_runc.proofs.calls.CallsSession.open.Goals as goal

pub returns-clause-some_answer : goal.returns-clause-some_answer
returns-clause-some_answer c = some_answer c.args.self.now.machine.unit c.args.self.now.machine.objects c.args.self.now.count
