use Rattle.std.proofs.Common.{refl}
use Rattle.scr_parse.proofs.PartSteps.{initial_at}
use Rattle.scr_parse.proofs.declaration.read_initial.Goals as goal

pub returns-then-is_end-clause-found : goal.returns-then-is_end-clause-found
returns-then-is_end-clause-found c = initial_at c.in-Some.ensures c.in_ok-init.ensures.found (c.if-is_end.ensures.0 refl)
