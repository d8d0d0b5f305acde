use Rattle.std.proofs.Common.{◌≡◌, take}
use Rattle.prove_invariants.specs.Rounds.{known_of}
use Rattle.prove_invariants.proofs.standing.known.Given as goal

abbrev pub invariant-loop-standing : goal.invariant-loop-standing
invariant-loop-standing l = l.out ≡ known_of (take l.standing-index l.standings)
