use Rattle.std.proofs.Common.{sym}
use Rattle.scr_parse.proofs.FormSteps.{modes_at}
use Rattle.scr_parse.proofs.form.read_modes_head.Goals as goal

pub returns-in_ok-copy-in-Some-clause-found : goal.returns-in_ok-copy-in-Some-clause-found
returns-in_ok-copy-in-Some-clause-found c = modes_at (sym c.if-not-is_between.ensures) c.in-Some.ensures c.in_ok-copy-in-Some.ensures
