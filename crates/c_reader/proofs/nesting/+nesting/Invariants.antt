use Rattle.std.proofs.Common.{◌≡◌, min, map, take}
use Rattle.c_subset.specs.Nesting.{greatest, open_at}
use Rattle.c_reader.proofs.nesting.+nesting.Given as goal

abbrev pub invariant-most_open-loop-x : goal.invariant-most_open-loop-x
invariant-most_open-loop-x l = l.most ≡ min (greatest (map (λ x. open_at x l.wanted) (take l.x-index l.xs))) 257

abbrev pub invariant-most_open_term-loop-t : goal.invariant-most_open_term-loop-t
invariant-most_open_term-loop-t l = l.most ≡ min (greatest (map (λ t. open_at t.value 4) (take l.t-index l.ts))) 257
