use Rattle.scr_parse.proofs.FormSteps.{specification_at}
use Rattle.scr_parse.proofs.form.read_specification.Goals as goal

pub returns-in_ok-copy-in-Start-Some-clause-found : goal.returns-in_ok-copy-in-Start-Some-clause-found
returns-in_ok-copy-in-Start-Some-clause-found c = specification_at c.in-Start-Some.is-0 c.in-Start-Some.ensures c.in_ok-copy-in-Start-Some.ensures
