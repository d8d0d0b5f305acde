use Rattle.std.proofs.Common.{◌≡◌, ◌++◌, rules}
use Rattle.scr_spec.specs.Shown.{data_of}
use Rattle.cmd_checked.specs.Reports.{all_yes}
use Rattle.cmd_large.specs.Texts.{counts_of, checked_text}
use Rattle.cmd_large.proofs.Parts.{passed_with}
use Rattle.cmd_large.proofs.spec.passed.Goals as goal

pub returns : goal.returns
returns c =
    let spec = data_of c.args.checked.now.spec in
    let text : c.extend_from_slice.new.self.items ≡ checked_text c.args.stages (counts_of (all_yes spec)) ++ c.in_ok-more.more.items = search rules in
    passed_with c.args.stages spec c.args.checked.now.order c.extend_from_slice.new.self.items c.in_ok-more.more.items c.in_ok-more.status c.requires text c.in_ok-more.ensures
