use Rattle.std.proofs.Common.{arith}
use Rattle.std.proofs.lemmas.Int.{ints}
use Rattle.scr_parse.proofs.PartSteps.{bounds_at}
use Rattle.scr_parse.proofs.declaration.read_bounds.Goals as goal

pub returns : goal.returns
returns c = bounds_at c.in_ok-low.ensures c.in_ok-rest.ensures c.in_ok-high.ensures (grind (arith, ints)) (grind (arith, ints))
