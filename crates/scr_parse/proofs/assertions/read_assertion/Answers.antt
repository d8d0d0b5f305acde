use Rattle.scr_parse.proofs.AssertionSteps.{assert_at}
use Rattle.scr_parse.proofs.assertions.read_assertion.Goals as goal

pub returns-clause-found : goal.returns-clause-found
returns-clause-found c =
    let said = c.in_ok-cond.ensures.found in assert_at c.in-Some.ensures c.in-Some-take_name_before.ensures c.in_ok-copy.ensures said.1 said.2
