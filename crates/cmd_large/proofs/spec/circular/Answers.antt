use Rattle.std.proofs.Common.{◌≡◌, rules}
use Rattle.scr_spec.specs.Shown.{data_of}
use Rattle.cmd_report.specs.Reports.{cycle_text}
use Rattle.cmd_large.specs.Summaries.{circular}
use Rattle.cmd_large.proofs.spec.circular.Goals as goal

pub returns : goal.returns
returns c stages =
    let text : c.push_cycle.new.out.items ≡ cycle_text (data_of c.args.spec.now) c.args.cycle.now = search rules in
    rw text (circular c.args.cycle.now c.requires)
