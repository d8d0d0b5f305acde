use Rattle.std.proofs.Common.{length}
use Rattle.prove_invariants.proofs.Marking.{IsMarking}
use Rattle.prove_invariants.proofs.round.mark.Given as goal

abbrev pub invariant-loop-standing : goal.invariant-loop-standing
invariant-loop-standing l = IsMarking l.round l.standings l.outcomes (length l.yielded) l.out l.gained
