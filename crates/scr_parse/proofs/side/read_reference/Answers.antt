use Rattle.scr_parse.proofs.SideSteps.{plain_at, primed_at}
use Rattle.scr_parse.proofs.side.read_reference.Goals as goal

pub returns-in_ok-copy-in-Some-Name-default-clause-found : goal.returns-in_ok-copy-in-Some-Name-default-clause-found
returns-in_ok-copy-in-Some-Name-default-clause-found c =
    let at = c.in-Some-Name-default in plain_at at.ensures at.field-0-0-is c.in_ok-copy-in-Some-Name-default.ensures

pub returns-in_ok-copy-in-Some-Primed-default-clause-found : goal.returns-in_ok-copy-in-Some-Primed-default-clause-found
returns-in_ok-copy-in-Some-Primed-default-clause-found c =
    let at = c.in-Some-Primed-default in primed_at c.if-primes.true at.ensures at.field-0-0-is c.in_ok-copy-in-Some-Primed-default.ensures
