use Rattle.dd_store.proofs.RunLemmas.{JoinedSoFar}
use Rattle.dd_store.proofs.node.join_runs.Given as goal

abbrev pub invariant-loop-index : goal.invariant-loop-index
invariant-loop-index l = JoinedSoFar l.runs l.out.items l.tail l.index
