use Rattle.std.proofs.Common.{refl, sym}
use Rattle.scr_parse.proofs.FormSteps.{end_at}
use Rattle.scr_parse.proofs.form.read_end.Goals as goal

pub returns-then-is_end-clause-found : goal.returns-then-is_end-clause-found
returns-then-is_end-clause-found c = end_at (sym c.if-may_end.ensures) (c.if-is_end.ensures.0 refl)
