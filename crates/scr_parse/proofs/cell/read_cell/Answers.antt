use Rattle.scr_parse.proofs.CellSteps.{condition_at, event_at}
use Rattle.scr_parse.proofs.cell.read_cell.Goals as goal

pub returns-in_ok-members-in-Condition-clause-found : goal.returns-in_ok-members-in-Condition-clause-found
returns-in_ok-members-in-Condition-clause-found c = condition_at c.in-Condition.is c.in_ok-members-in-Condition.ensures.found c.any_of.ensures

pub returns-in_ok-prims-in-Event-clause-found : goal.returns-in_ok-prims-in-Event-clause-found
returns-in_ok-prims-in-Event-clause-found c = event_at c.in-Event.is c.in_ok-prims-in-Event.ensures.found
