use Rattle.std.proofs.Common.{sym}
use Rattle.scr_parse.specs.Forms.{condition_head}
use Rattle.scr_parse.proofs.form.read_condition_head.Goals as goal

pub returns-clause-found : goal.returns-clause-found
returns-clause-found c = condition_head (sym c.if-not-is_between.ensures) c.in_ok-name.ensures.found
