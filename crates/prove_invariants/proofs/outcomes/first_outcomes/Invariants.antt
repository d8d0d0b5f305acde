use Rattle.prove_invariants.proofs.Marking.{IsBeginning}
use Rattle.prove_invariants.proofs.outcomes.first_outcomes.Given as goal

abbrev pub invariant-loop-standing : goal.invariant-loop-standing
invariant-loop-standing l = IsBeginning l.round l.standings l.standing-index l.out
