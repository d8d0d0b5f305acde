use Rattle.scr_parse.proofs.FormSteps.{monitored_at, no_monitored}
use Rattle.scr_parse.proofs.form.read_monitored.Goals as goal

pub returns-in-Some-clause-found : goal.returns-in-Some-clause-found
returns-in-Some-clause-found c = monitored_at c.in-Declarations.is c.in-Some.is c.in_ok-name-in-Declarations.ensures.found

pub returns-in-None-clause-refused : goal.returns-in-None-clause-refused
returns-in-None-clause-refused c = λ e statement next d. no_monitored c.in-None.is c.in_ok-name-in-Declarations.ensures.found d
