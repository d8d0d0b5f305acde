use Rattle.std.proofs.Common.{sym}
use Rattle.scr_parse.specs.Forms.{event_head}
use Rattle.scr_parse.proofs.form.read_event_head.Goals as goal

pub returns-clause-found : goal.returns-clause-found
returns-clause-found c = event_head (sym c.if-not-is_between.ensures) c.in_ok-name.ensures.found
