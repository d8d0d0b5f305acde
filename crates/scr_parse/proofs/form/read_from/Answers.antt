use Rattle.scr_parse.proofs.FormSteps.{from_to_at}
use Rattle.scr_parse.proofs.form.read_from.Goals as goal

pub returns-in_ok-source-in-Transitions-clause-found : goal.returns-in_ok-source-in-Transitions-clause-found
returns-in_ok-source-in-Transitions-clause-found c = from_to_at c.in-Transitions.is c.in_ok-source-in-Transitions.ensures.found
