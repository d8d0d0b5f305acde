use Rattle.std.proofs.Common.{[], take}
use Rattle.prove_asserts.specs.Judged.{HasEach}
use Rattle.prove_asserts.specs.Settings.{IsJudgedBy}
use Rattle.prove_asserts.proofs.judge.first_verdicts.Given as goal

abbrev pub invariant-loop-a : goal.invariant-loop-a
invariant-loop-a l = HasEach (IsJudgedBy l.setting []) (take l.a-index l.assertions) l.out
