use Rattle.prove_candidates.specs.Candidates.{AreCandidatesBelow}
use Rattle.prove_candidates.proofs.list.table_candidates.Given as goal

abbrev pub invariant-loop-mode : goal.invariant-loop-mode
invariant-loop-mode l = AreCandidatesBelow l.table l.mode l.out
