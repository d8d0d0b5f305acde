use Rattle.scr_parse.specs.Sides.{reference}
use Rattle.scr_parse.proofs.SideSteps.{truth_at}
use Rattle.scr_parse.proofs.side.read_item.Goals as goal

pub returns-in-Some-take_truth-clause-found : goal.returns-in-Some-take_truth-clause-found
returns-in-Some-take_truth-clause-found c = truth_at c.in-Some-take_truth.ensures

pub returns-clause-found : goal.returns-clause-found
returns-clause-found c = reference c.in_ok-operand.ensures.found
