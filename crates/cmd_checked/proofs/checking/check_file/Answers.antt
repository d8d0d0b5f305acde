use Rattle.cmd_checked.proofs.Reported.{file_outcome}
use Rattle.cmd_checked.proofs.checking.check_file.Goals as goal

pub returns-clause-exact : goal.returns-clause-exact
returns-clause-exact c =
    file_outcome c.check_spelling.result c.args.limit c.args.file.now (λ text loaded. c.check_spelling.ensures.exact text (c.in_ok-spelling.ensures text loaded))
