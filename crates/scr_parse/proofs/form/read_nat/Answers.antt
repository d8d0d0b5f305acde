use Rattle.std.proofs.Common.{arith}
use Rattle.std.proofs.lemmas.Int.{ints}
use Rattle.scr_parse.proofs.FormSteps.{nat_at}
use Rattle.scr_parse.proofs.form.read_nat.Goals as goal

pub returns-in_ok-copy-in-Declarations-Some-clause-found : goal.returns-in_ok-copy-in-Declarations-Some-clause-found
returns-in_ok-copy-in-Declarations-Some-clause-found c = nat_at c.in-Declarations-Some.is-0 c.in-Declarations-Some.ensures.0 c.in-Declarations-Some.ensures.1 c.in_ok-copy-in-Declarations-Some.ensures (grind (arith, ints))
