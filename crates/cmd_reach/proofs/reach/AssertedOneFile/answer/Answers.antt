use Rattle.std.proofs.Common.{subst}
use Rattle.scr_spec.specs.Shown.{data_of}
use Rattle.scr_parse.specs.declared.text.TheConstants.{TEXT_LIMIT}
use Rattle.cmd_work.specs.Load.{IsLoaded}
use Rattle.cmd_reach.proofs.Files.{too_long}
use Rattle.cmd_reach.proofs.reach.AssertedOneFile.answer.Goals as goal

pub returns-in_ok-line-in-TooLong-clause-exact : goal.returns-in_ok-line-in-TooLong-clause-exact
returns-in_ok-line-in-TooLong-clause-exact c held loaded =
    too_long c.args.self.now.most (data_of c.args.self.now.checked.now.spec) c.in_ok-line-in-TooLong.line.items held c.in_ok-line-in-TooLong.ensures
    (subst (IsLoaded TEXT_LIMIT held) c.in-TooLong.is loaded)
