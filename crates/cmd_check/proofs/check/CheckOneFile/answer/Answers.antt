use Rattle.std.proofs.Common.{ℕ, List, Some}
use Rattle.scr_parse.specs.declared.text.TheConstants.{TEXT_LIMIT}
use Rattle.cmd_work.specs.Load.{IsLoaded}
use Rattle.cmd_checked.specs.declared.checking.Checking.TheVariants.{Passed}
use Rattle.cmd_checked.specs.Checking.{IsChecking}
use Rattle.cmd_checked.specs.Reports.{ChecksText}
use Rattle.cmd_check.proofs.Checked.{passed_checks, finished_checks}
use Rattle.cmd_check.proofs.check.CheckOneFile.answer.Goals as goal

pub returns-in-Passed-clause-exact : goal.returns-in-Passed-clause-exact
returns-in-Passed-clause-exact c =
    let passed : (text : List ℕ) → IsLoaded TEXT_LIMIT (Some text) c.args.file → IsChecking c.args.self.now.limit text (Passed c.in-Passed.checked) =
    rw c.in-Passed.is at c.in_ok-checked.ensures.exact in
    passed_checks c.args.self.now.limit c.args.file c.in-Passed.checked c.in_ok-passed_report-in-Passed.field-0.items passed c.in_ok-passed_report-in-Passed.ensures

pub returns-clause-exact : goal.returns-clause-exact
returns-clause-exact c =
    let finished : (text : List ℕ) → IsLoaded TEXT_LIMIT (Some text) c.args.file → ChecksText c.args.self.now.limit text c.in-Finished.report.items c.in-Finished.status =
    rw c.in-Finished.is at c.in_ok-checked.ensures.exact in
    finished_checks c.args.self.now.limit c.args.file c.in-Finished.report.items c.in-Finished.status finished
