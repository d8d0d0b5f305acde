use Rattle.scr_parse.proofs.FormSteps.{type_at}
use Rattle.scr_parse.proofs.form.read_type.Goals as goal

pub returns-in_ok-type_rest-in-Declarations-clause-found : goal.returns-in_ok-type_rest-in-Declarations-clause-found
returns-in_ok-type_rest-in-Declarations-clause-found c = type_at c.in-Declarations.is c.in_ok-type_rest-in-Declarations.ensures.found
