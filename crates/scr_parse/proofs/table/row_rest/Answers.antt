use Rattle.scr_parse.proofs.PartSteps.{row_at, row_alone_at}
use Rattle.scr_parse.proofs.table.row_rest.Goals as goal

pub returns-in-Some-clause-found : goal.returns-in-Some-clause-found
returns-in-Some-clause-found c = row_alone_at c.in-Some.ensures c.new.ensures c.in_ok-cells.ensures.found

pub returns-clause-found : goal.returns-clause-found
returns-clause-found c = row_at c.in_ok-modes.ensures.found c.in-Some-past_sign.ensures c.in_ok-cells-2.ensures.found
