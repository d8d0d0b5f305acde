use Rattle.std.proofs.Common.{arith}
use Rattle.std.proofs.lemmas.Int.{ints}
use Rattle.scr_parse.specs.Names.{named_value, true_value, false_value}
use Rattle.scr_parse.proofs.PartSteps.{value_number}
use Rattle.scr_parse.proofs.names.read_value.Goals as goal

pub returns-in-Some-clause-found : goal.returns-in-Some-clause-found
returns-in-Some-clause-found c = value_number c.in-Some.ensures (grind (arith, ints))

pub returns-in-Some-past_keyword-clause-found : goal.returns-in-Some-past_keyword-clause-found
returns-in-Some-past_keyword-clause-found c = rw c.in-Some-past_keyword.ensures true_value

pub returns-in-Some-past_keyword-2-clause-found : goal.returns-in-Some-past_keyword-2-clause-found
returns-in-Some-past_keyword-2-clause-found c = rw c.in-Some-past_keyword-2.ensures false_value

pub returns-in_ok-copy-in-Some-take_name-clause-found : goal.returns-in_ok-copy-in-Some-take_name-clause-found
returns-in_ok-copy-in-Some-take_name-clause-found c = rw (c.in-Some-take_name.ensures, c.in_ok-copy-in-Some-take_name.ensures) named_value
