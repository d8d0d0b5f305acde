use Rattle.std.proofs.Common.{length}
use Rattle.prove_invariants.proofs.Marking.{IsGoingOn}
use Rattle.prove_invariants.proofs.outcomes.next_outcomes.Given as goal

abbrev pub invariant-loop-standing : goal.invariant-loop-standing
invariant-loop-standing l = IsGoingOn l.round l.moved.changed l.standings l.outcomes (length l.yielded) l.out
