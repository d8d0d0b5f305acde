use Rattle.cmd_runc.proofs.Files.{some_answers}
use Rattle.cmd_runc.proofs.command.RunCTwoFiles.most_bytes.Goals as goal

pub returns-clause-some_answer : goal.returns-clause-some_answer
returns-clause-some_answer c = some_answers
