use Rattle.scr_parse.proofs.FormSteps.{values_at}
use Rattle.scr_parse.proofs.form.read_values.Goals as goal

pub returns-in_ok-read_sides-in-Rows-clause-found : goal.returns-in_ok-read_sides-in-Rows-clause-found
returns-in_ok-read_sides-in-Rows-clause-found c = values_at c.in-Rows.is c.in_ok-read_sides-in-Rows.ensures.found
