use Rattle.cmd_invariants.proofs.Derived.{file_some}
use Rattle.cmd_invariants.proofs.invariants.InvariantsOneFile.most_bytes.Goals as goal

pub returns-clause-some_answer : goal.returns-clause-some_answer
returns-clause-some_answer c = file_some c.args.self.now.limit
