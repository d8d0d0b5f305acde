use Rattle.scr_resolve.specs.Texts.{unread}
use Rattle.cmd_reach.proofs.reading.unread.Goals as goal

pub returns : goal.returns
returns c text spec is = record { refusal = unread c.args.line c.args.kind; refused = is; line_is = c.in_ok-unread_line.ensures }
