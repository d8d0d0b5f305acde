use Rattle.std.proofs.Common.{arith}
use Rattle.std.proofs.lemmas.Int.{ints}
use Rattle.scr_parse.proofs.SideSteps.{number_at, times_at}
use Rattle.scr_parse.proofs.side.read_multiple.Goals as goal

pub returns-in_ok-operand-in-Some-clause-found : goal.returns-in_ok-operand-in-Some-clause-found
returns-in_ok-operand-in-Some-clause-found c = times_at c.requires c.in-Some.ensures c.in_ok-operand-in-Some.ensures.found (grind (arith, ints))

pub returns-in-None-clause-found : goal.returns-in-None-clause-found
returns-in-None-clause-found c = number_at c.requires c.in-None.ensures (grind (arith, ints))
