use Rattle.std.proofs.Common.{◌≡◌, length, take}
use Rattle.prove_candidates.proofs.same.+same.Given as goal

abbrev pub invariant-are_same-loop-c : goal.invariant-are_same-loop-c
invariant-are_same-loop-c l = take (length l.yielded) l.cs ≡ take (length l.yielded) l.ds
