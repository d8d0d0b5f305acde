use Rattle.std.proofs.Common.{arith}
use Rattle.std.proofs.lemmas.Int.{ints}
use Rattle.scr_parse.proofs.PartSteps.{int_plain, int_minus}
use Rattle.scr_parse.proofs.names.read_int.Goals as goal

pub returns-in_ok-n-in-Some : goal.returns-in_ok-n-in-Some
returns-in_ok-n-in-Some c = int_minus c.in_ok-n-in-Some.ensures.0 c.in-Some.ensures c.in_ok-n-in-Some.ensures.1 (grind (arith, ints))

pub returns-in_ok-n-in-None : goal.returns-in_ok-n-in-None
returns-in_ok-n-in-None c = int_plain c.in_ok-n-in-None.ensures.0 c.in_ok-n-in-None.ensures.1 (grind (arith, ints))
