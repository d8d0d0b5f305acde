use Rattle.std.proofs.Common.{subst}
use Rattle.scr_spec.specs.Shown.{data_of}
use Rattle.cmd_checked.specs.Spelling.{IsSpelling}
use Rattle.cmd_checked.proofs.Reported.{spelled_outcome, refused_with}
use Rattle.cmd_checked.proofs.checking.check_spelling.Goals as goal

pub returns-in-Right-clause-exact : goal.returns-in-Right-clause-exact
returns-in-Right-clause-exact c text spelled =
    spelled_outcome c.check_spec.result c.args.limit text (data_of c.in-Right.spec) (subst (IsSpelling text) c.in-Right.is spelled) c.check_spec.ensures.exact

pub returns-in-Refused-clause-exact : goal.returns-in-Refused-clause-exact
returns-in-Refused-clause-exact c text spelled = refused_with text c.in-Refused.line.items c.args.limit (subst (IsSpelling text) c.in-Refused.is spelled)
