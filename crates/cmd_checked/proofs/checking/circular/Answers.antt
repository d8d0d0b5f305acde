use Rattle.std.proofs.Common.{◌≡◌, rules}
use Rattle.scr_spec.specs.Shown.{data_of}
use Rattle.cmd_report.specs.Reports.{cycle_text}
use Rattle.cmd_checked.proofs.Reported.{circular_checking, findings_end}
use Rattle.cmd_checked.proofs.checking.circular.Goals as goal

pub returns-clause-exact : goal.returns-clause-exact
returns-clause-exact c =
    let text : c.push_cycle.new.out.items ≡ cycle_text (data_of c.args.spec.now) c.args.cycle.now = search rules in
    circular_checking (data_of c.args.spec.now) c.args.cycle.now c.push_cycle.new.out.items text c.requires

pub returns-clause-ending : goal.returns-clause-ending
returns-clause-ending c = findings_end
