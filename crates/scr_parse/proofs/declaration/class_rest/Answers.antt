use Rattle.scr_parse.proofs.PartSteps.{class_at}
use Rattle.scr_parse.proofs.declaration.class_rest.Goals as goal

pub returns-clause-found : goal.returns-clause-found
returns-clause-found c =
    class_at c.in-Some.ensures c.in_ok-copy.ensures c.in_ok-modes.ensures.found c.modes.view_is c.in-Some-lone_name_behind.ensures c.in_ok-copy-2.ensures
