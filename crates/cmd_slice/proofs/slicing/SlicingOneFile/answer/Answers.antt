use Rattle.std.proofs.Common.{ℕ, List, Some, map, string_bytes}
use Rattle.scr_parse.specs.declared.text.TheConstants.{TEXT_LIMIT}
use Rattle.cmd_work.specs.Load.{IsLoaded}
use Rattle.cmd_checked.specs.declared.checking.Checking.TheVariants.{Passed}
use Rattle.cmd_checked.specs.Reports.{ChecksText}
use Rattle.cmd_checked.specs.Checking.{EndsCommand, IsChecking}
use Rattle.cmd_slice.proofs.Files.{passed_result, finished_file}
use Rattle.cmd_slice.proofs.slicing.SlicingOneFile.answer.Goals as goal

pub returns-clause-exact : goal.returns-clause-exact
returns-clause-exact c =
    let is : (text : List ℕ) → IsLoaded TEXT_LIMIT (Some text) c.args.file → ChecksText c.args.self.now.limit text c.in-Finished.report.items c.in-Finished.status =
    rw c.in-Finished.is at c.in_ok-checked.ensures.exact in
    let ends : EndsCommand c.in-Finished.status = rw c.in-Finished.is at c.in_ok-checked.ensures.ending in
    finished_file (map string_bytes c.args.self.now.names.now) c.args.self.now.limit c.args.file c.in-Finished.report.items c.in-Finished.status is ends

pub returns-in-Passed-clause-exact : goal.returns-in-Passed-clause-exact
returns-in-Passed-clause-exact c =
    let is : (text : List ℕ) → IsLoaded TEXT_LIMIT (Some text) c.args.file → IsChecking c.args.self.now.limit text (Passed c.in-Passed.checked) =
    rw c.in-Passed.is at c.in_ok-checked.ensures.exact in
    passed_result (map string_bytes c.args.self.now.names.now) c.args.self.now.limit c.args.file c.in-Passed.checked c.answer_for.result is c.answer_for.ensures.exact
