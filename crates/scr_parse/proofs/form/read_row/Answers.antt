use Rattle.scr_parse.specs.Forms.{row}
use Rattle.scr_parse.proofs.FormSteps.{no_row}
use Rattle.scr_parse.proofs.form.read_row.Goals as goal

pub returns-in_default-clause-refused : goal.returns-in_default-clause-refused
returns-in_default-clause-refused c = λ e statement next d. no_row c.in_default.ensures d

pub returns-clause-found : goal.returns-clause-found
returns-clause-found c = row c.in-Some.ensures c.in_ok-modes.ensures.found
