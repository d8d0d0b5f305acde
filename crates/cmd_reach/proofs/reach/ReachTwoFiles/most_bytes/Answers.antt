use Rattle.cmd_reach.proofs.Files.{some_answers}
use Rattle.cmd_reach.proofs.reach.ReachTwoFiles.most_bytes.Goals as goal

pub returns-clause-some_answer : goal.returns-clause-some_answer
returns-clause-some_answer c held second = some_answers c.args.self.now.limit c.args.self.now.most held second c.args.self.now.some
