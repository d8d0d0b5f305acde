use Rattle.prove_asserts.proofs.Judging.{IsGoingOn}
use Rattle.prove_asserts.proofs.judge.test_each.Given as goal

abbrev pub invariant-loop-i : goal.invariant-loop-i
invariant-loop-i l = IsGoingOn l.setting l.change.changed l.assertions l.initial.verdicts l.i l.verdicts
