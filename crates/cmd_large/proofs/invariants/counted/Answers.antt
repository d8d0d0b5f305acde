use Rattle.std.proofs.Common.{◌≡◌, ◌++◌, length, rules}
use Rattle.std.specs.Prelude.{codes}
use Rattle.scr_spec.specs.Shown.{data_of}
use Rattle.cmd_large.specs.Texts.{number_line}
use Rattle.cmd_large.proofs.Parts.{counted_with}
use Rattle.cmd_large.proofs.invariants.counted.Goals as goal

pub returns : goal.returns
returns c =
    let text : c.extend_from_slice.new.self.items ≡ number_line (codes "invariants") (length c.args.found.now) ++ c.in_ok-more.more.items = search rules in
    counted_with (data_of c.args.checked.now.spec) c.args.checked.now.order.list c.args.found.now c.extend_from_slice.new.self.items c.in_ok-more.more.items c.in_ok-more.status
    c.requires text c.in_ok-more.ensures
