use Rattle.std.proofs.Common.{arith}
use Rattle.std.proofs.lemmas.Int.{ints}
use Rattle.scr_parse.proofs.PartSteps.{range_at, labels_at}
use Rattle.scr_parse.proofs.declaration.type_rest.Goals as goal

pub returns-in-Some-read_bounds-clause-found : goal.returns-in-Some-read_bounds-clause-found
returns-in-Some-read_bounds-clause-found c = range_at c.in-Some.ensures c.in_ok-copy.ensures c.in-Some-read_bounds.ensures (grind (arith, ints)) (grind (arith, ints))

pub returns-clause-found : goal.returns-clause-found
returns-clause-found c = labels_at c.in-Some.ensures c.in_ok-copy-2.ensures c.in_ok-names.ensures.found
