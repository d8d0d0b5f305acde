use Rattle.std.proofs.Common.{take}
use Rattle.prove_asserts.specs.Judged.{HasEach}
use Rattle.prove_asserts.specs.Settings.{IsJudgedBy}
use Rattle.prove_asserts.proofs.judge.judge_in.Given as goal

abbrev pub invariant-loop-x : goal.invariant-loop-x
invariant-loop-x l = HasEach (IsJudgedBy l.setting (take l.x-index l.setting.monitored.now)) l.assertions l.verdicts
