use Rattle.std.proofs.Common.{◌≡◌, ◌++◌, rules}
use Rattle.scr_spec.specs.Shown.{data_of}
use Rattle.cmd_report.specs.Reports.{order_text}
use Rattle.cmd_checked.specs.Reports.{lines_text}
use Rattle.cmd_checked.proofs.Reported.{found_checking}
use Rattle.cmd_checked.proofs.Statuses.{verdicts_final}
use Rattle.cmd_checked.proofs.checking.found.Goals as goal

pub returns-clause-exact : goal.returns-clause-exact
returns-clause-exact c =
    let spec = data_of c.args.spec.now in
    let text : c.push_lines.new.out.items ≡ order_text spec c.args.order.now.list ++ lines_text spec c.args.verdicts.now = search rules in
    found_checking spec c.args.order.now c.args.verdicts.now c.push_lines.new.out.items c.verdicts_status.result text c.verdicts_status.ensures

pub returns-clause-ending : goal.returns-clause-ending
returns-clause-ending c = rw c.verdicts_status.ensures (verdicts_final c.args.verdicts.now c.requires)
