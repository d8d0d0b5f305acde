use Rattle.scr_parse.proofs.FormSteps.{controlled_at}
use Rattle.scr_parse.proofs.form.read_controlled.Goals as goal

pub returns-in_ok-name-in-Declarations-clause-found : goal.returns-in_ok-name-in-Declarations-clause-found
returns-in_ok-name-in-Declarations-clause-found c = controlled_at c.in-Declarations.is c.in_ok-name-in-Declarations.ensures.found
