use Rattle.scr_parse.proofs.PartSteps.{variable_at}
use Rattle.scr_parse.proofs.declaration.variable_rest.Goals as goal

pub returns-clause-found : goal.returns-clause-found
returns-clause-found c = variable_at c.in-Some.ensures c.in_ok-copy.ensures c.in_ok-kind.ensures.found
