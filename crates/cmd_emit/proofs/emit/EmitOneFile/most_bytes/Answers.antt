use Rattle.cmd_emit.proofs.Emitting.{one_emission}
use Rattle.cmd_emit.proofs.emit.EmitOneFile.most_bytes.Goals as goal

pub returns-clause-some_answer : goal.returns-clause-some_answer
returns-clause-some_answer c = one_emission.some c.args.self.now.limit
