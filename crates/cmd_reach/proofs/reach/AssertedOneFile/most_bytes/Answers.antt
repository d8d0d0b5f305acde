use Rattle.scr_spec.specs.Shown.{data_of}
use Rattle.cmd_reach.proofs.Files.{second_some}
use Rattle.cmd_reach.proofs.reach.AssertedOneFile.most_bytes.Goals as goal

pub returns-clause-some_answer : goal.returns-clause-some_answer
returns-clause-some_answer c =
    let base = c.args.self.now.checked.now in
    second_some c.args.self.now.most (data_of base.spec) base.order (record { sound = base.spec.sound; ordered = base.ordered; right = base.right }) c.args.self.now.some
