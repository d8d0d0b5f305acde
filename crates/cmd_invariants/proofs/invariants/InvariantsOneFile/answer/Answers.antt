use Rattle.std.proofs.Common.{ℕ, List, Some}
use Rattle.scr_parse.specs.declared.text.TheConstants.{TEXT_LIMIT}
use Rattle.cmd_work.specs.Load.{IsLoaded}
use Rattle.cmd_checked.specs.declared.checking.Checking.TheVariants.{Passed}
use Rattle.cmd_checked.specs.Checking.{EndsCommand, IsChecking}
use Rattle.cmd_checked.specs.Reports.{ChecksText}
use Rattle.cmd_invariants.proofs.Derived.{if_ok_then, passed_file, finished_file}
use Rattle.cmd_invariants.proofs.invariants.InvariantsOneFile.answer.Goals as goal

pub returns-in-Passed-clause-exact : goal.returns-in-Passed-clause-exact
returns-in-Passed-clause-exact c =
    let passed : (text : List ℕ) → IsLoaded TEXT_LIMIT (Some text) c.args.file → IsChecking c.args.self.now.limit text (Passed c.in-Passed.checked) =
    rw c.in-Passed.is at c.in_ok-checked.ensures.exact in
    if_ok_then _ _ c.derive_all.result (λ r mine. passed_file c.args.self.now.limit c.args.file c.in-Passed.checked r.0.items r.1 passed mine) c.derive_all.ensures.exact

pub returns-clause-exact : goal.returns-clause-exact
returns-clause-exact c =
    let finished : (text : List ℕ) → IsLoaded TEXT_LIMIT (Some text) c.args.file → ChecksText c.args.self.now.limit text c.in-Finished.report.items c.in-Finished.status =
    rw c.in-Finished.is at c.in_ok-checked.ensures.exact in
    let ends : EndsCommand c.in-Finished.status = rw c.in-Finished.is at c.in_ok-checked.ensures.ending in
    finished_file c.args.self.now.limit c.args.file c.in-Finished.report.items c.in-Finished.status finished ends
