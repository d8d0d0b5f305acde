use Rattle.dd_store.specs.Held.{IsKnown}
use Rattle.test_diagrams.proofs.large.same_again.Given as goal

abbrev pub invariant-loop-time : goal.invariant-loop-time
invariant-loop-time l = IsKnown l.store l.f × IsKnown l.store l.g
