use Rattle.std.proofs.Common.{◌≡◌, take}
use Rattle.prove_candidates.proofs.copy.+copy.Given as goal

abbrev pub invariant-copy_conditions-loop-c : goal.invariant-copy_conditions-loop-c
invariant-copy_conditions-loop-c l = l.copies ≡ take l.c-index l.cs
