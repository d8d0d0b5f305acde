use Rattle.std.proofs.Common.{◌≡◌, length, take}
use Rattle.prove_candidates.proofs.same.are_same_items.Given as goal

abbrev pub invariant-loop-x : goal.invariant-loop-x
invariant-loop-x l = take (length l.yielded) l.xs ≡ take (length l.yielded) l.ys
