use Rattle.std.proofs.Common.{take}
use Rattle.prove_invariants.specs.Outcomes.{AreOutcomes}
use Rattle.prove_invariants.proofs.outcomes.outcomes.Given as goal

abbrev pub invariant-loop-x : goal.invariant-loop-x
invariant-loop-x l = AreOutcomes l.round (take l.x-index l.round.setting.now.monitored.now) l.standings l.outcomes
