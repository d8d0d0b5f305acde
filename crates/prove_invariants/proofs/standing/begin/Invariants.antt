use Rattle.std.proofs.Common.{◌≡◌, map, take}
use Rattle.prove_invariants.specs.Rounds.{standing_of}
use Rattle.prove_invariants.proofs.standing.begin.Given as goal

abbrev pub invariant-loop-candidate : goal.invariant-loop-candidate
invariant-loop-candidate l = l.standings ≡ map standing_of (take l.candidate-index l.candidates)
