use Rattle.scr_parse.proofs.PartSteps.{from_at}
use Rattle.scr_parse.proofs.table.from_rest.Goals as goal

pub returns-clause-found : goal.returns-clause-found
returns-clause-found c = from_at c.in-Some.ensures c.in_ok-copy.ensures c.in_ok-copy-2.ensures c.in_ok-prims.ensures.found
