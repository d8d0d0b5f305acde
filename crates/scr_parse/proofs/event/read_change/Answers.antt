use Rattle.scr_parse.proofs.EventSteps.{becomes_at, ceases_at, changes_at}
use Rattle.scr_parse.proofs.event.read_change.Goals as goal

pub returns-in-Some-clause-found : goal.returns-in-Some-clause-found
returns-in-Some-clause-found c = let found = c.in_ok-operand.ensures.found in becomes_at c.in-Some.ensures found.2 found.3 found.4

pub returns-in-Some-past_sign-clause-found : goal.returns-in-Some-past_sign-clause-found
returns-in-Some-past_sign-clause-found c = let found = c.in_ok-operand-2.ensures.found in ceases_at c.in-Some-past_sign.ensures found.2 found.3 found.4

pub returns-in_ok-copy-in-Some-take_operand-clause-found : goal.returns-in_ok-copy-in-Some-take_operand-clause-found
returns-in_ok-copy-in-Some-take_operand-clause-found c =
    changes_at c.in-Some-past_sign-2.ensures c.in-Some-take_operand.ensures c.in_ok-copy-in-Some-take_operand.ensures
