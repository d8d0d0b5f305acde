use Rattle.std.proofs.Common.{◌≡◌, take}
use Rattle.prove_invariants.specs.Rounds.{found_of}
use Rattle.prove_invariants.proofs.standing.found.Given as goal

abbrev pub invariant-loop-standing : goal.invariant-loop-standing
invariant-loop-standing l = l.out ≡ found_of (take l.standing-index l.standings)
