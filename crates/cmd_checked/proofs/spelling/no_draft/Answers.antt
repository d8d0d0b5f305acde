use Rattle.std.proofs.Common.{◌≡◌, rules}
use Rattle.scr_resolve.specs.Texts.{unread}
use Rattle.cmd_report.specs.Faults.{refusal_text}
use Rattle.cmd_checked.proofs.spelling.no_draft.Goals as goal

pub returns : goal.returns
returns c text is =
    let line : c.push_text_fault.new.out.items ≡ refusal_text (unread c.args.line c.args.kind) = search rules in
    record { refusal = unread c.args.line c.args.kind; refused = is; line_is = line }
