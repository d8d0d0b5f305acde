use Rattle.std.proofs.Common.{refl, sym}
use Rattle.scr_parse.proofs.FormSteps.{finish_at}
use Rattle.scr_parse.proofs.form.read_finish.Goals as goal

pub returns-then-is_end-clause-found : goal.returns-then-is_end-clause-found
returns-then-is_end-clause-found c = finish_at (sym c.if-is_between.ensures) (c.if-is_end.ensures.0 refl)
