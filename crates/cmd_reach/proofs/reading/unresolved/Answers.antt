use Rattle.std.proofs.Common.{◌≡◌, rules}
use Rattle.scr_resolve.specs.Texts.{unresolved}
use Rattle.cmd_reach.specs.Texts.{refused_text}
use Rattle.cmd_reach.proofs.reading.unresolved.Goals as goal

pub returns : goal.returns
returns c text spec is =
    let line : c.push_type_fault.new.out.items ≡ refused_text (unresolved c.args.line c.args.kind c.args.name.now) = search rules in
    record { refusal = unresolved c.args.line c.args.kind c.args.name.now; refused = is; line_is = line }
