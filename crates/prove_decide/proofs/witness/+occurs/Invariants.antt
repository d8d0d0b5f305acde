use Rattle.std.proofs.Common.{◌≡◌, false, take}
use Rattle.std.specs.List.{list_any}
use Rattle.prove_decide.specs.Readings.{occurs}
use Rattle.prove_decide.proofs.witness.+occurs.Given as goal

abbrev pub invariant-any_occurs-loop-member : goal.invariant-any_occurs-loop-member
invariant-any_occurs-loop-member l = list_any (occurs l.level) (take l.member-index l.fs) ≡ false
