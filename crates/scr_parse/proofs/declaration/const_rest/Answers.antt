use Rattle.std.proofs.Common.{arith}
use Rattle.std.proofs.lemmas.Int.{ints}
use Rattle.scr_parse.proofs.PartSteps.{const_at}
use Rattle.scr_parse.proofs.declaration.const_rest.Goals as goal

pub returns : goal.returns
returns c = const_at c.in_ok-name.ensures c.in_ok-value.ensures (grind (arith, ints))
