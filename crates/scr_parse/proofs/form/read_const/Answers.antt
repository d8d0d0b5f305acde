use Rattle.std.proofs.Common.{arith}
use Rattle.std.proofs.lemmas.Int.{ints}
use Rattle.scr_parse.proofs.FormSteps.{const_at}
use Rattle.scr_parse.proofs.form.read_const.Goals as goal

pub returns-in_ok-copy-in-Declarations-Some-clause-found : goal.returns-in_ok-copy-in-Declarations-Some-clause-found
returns-in_ok-copy-in-Declarations-Some-clause-found c = const_at c.in-Declarations-Some.is-0 c.in-Declarations-Some.ensures c.in_ok-copy-in-Declarations-Some.ensures (grind (arith, ints))
