use Rattle.scr_parse.proofs.PartSteps.{braced_at}
use Rattle.scr_parse.proofs.declaration.read_braced.Goals as goal

pub returns-in-Some-past_sign-clause-found : goal.returns-in-Some-past_sign-clause-found
returns-in-Some-past_sign-clause-found c = braced_at c.in-Some.ensures c.in_ok-names.ensures.found c.in-Some-past_sign.ensures
