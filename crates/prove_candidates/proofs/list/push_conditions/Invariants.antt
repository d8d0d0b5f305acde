use Rattle.std.proofs.Common.{◌≡◌, ◌++◌, map, take}
use Rattle.prove_candidates.specs.Candidates.{candidate_in}
use Rattle.prove_candidates.proofs.list.push_conditions.Given as goal

abbrev pub invariant-loop-c : goal.invariant-loop-c
invariant-loop-c l = l.out ≡ l.initial.out ++ map (candidate_in l.mode) (take l.c-index l.conditions)
