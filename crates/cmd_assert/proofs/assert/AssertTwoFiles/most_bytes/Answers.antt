use Rattle.cmd_assert.proofs.Files.{some_answers}
use Rattle.cmd_assert.proofs.assert.AssertTwoFiles.most_bytes.Goals as goal

pub returns-clause-some_answer : goal.returns-clause-some_answer
returns-clause-some_answer c = some_answers c.args.self.now.limit
