use Rattle.std.proofs.Common.{refl}
use Rattle.scr_parse.proofs.PartSteps.{plain_at}
use Rattle.scr_parse.specs.Forms.{with_init}
use Rattle.scr_parse.proofs.declaration.read_typed.Goals as goal

pub returns-then-is_end-clause-found : goal.returns-then-is_end-clause-found
returns-then-is_end-clause-found c = plain_at c.in_ok-kind.ensures.found (c.if-is_end.ensures.0 refl)

pub returns-clause-found : goal.returns-clause-found
returns-clause-found c = with_init c.in_ok-kind.ensures.found c.in_ok-init.ensures.found
