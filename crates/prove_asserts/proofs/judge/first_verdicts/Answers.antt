use Rattle.std.proofs.Common.{[]}
use Rattle.prove_asserts.specs.Settings.{IsJudgedBy}
use Rattle.prove_asserts.proofs.Judging.{each_start, each_next, each_done}
use Rattle.prove_asserts.proofs.judge.first_verdicts.Goals as goal

pub loop-a-init : goal.loop-a-init
loop-a-init c = each_start (IsJudgedBy c.args.setting.now []) c.args.assertions.now _ c.new-out.ensures

pub loop-a-preserved : goal.loop-a-preserved
loop-a-preserved c =
    each_next (IsJudgedBy c.args.setting.now []) c.args.assertions.now c.loop-a.a-index c.loop-a.out c.a-item.result c.first_verdict.result _ c.loop-a.invariant c.loop-a-test.true c.a-item.is
    c.first_verdict.ensures c.in_ok-push.ensures.ok

pub returns : goal.returns
returns c = each_done (IsJudgedBy c.args.setting.now []) c.args.assertions.now c.loop-a.a-index c.loop-a.out c.loop-a.invariant c.loop-a-test.false
