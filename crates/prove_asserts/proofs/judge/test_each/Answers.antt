use Rattle.std.proofs.Common.{◌+◌, set, sym, ap, subst, ◌∙◌}
use Rattle.prove_asserts.proofs.Judging.{IsGoingOn, going_skip, going_set}
use Rattle.prove_asserts.proofs.judge.test_each.Goals as goal
use Rattle.prove_asserts.proofs.judge.test_each.Goals.{then-is_open_at+in_ok-decision, else-is_open_at}

pub loop-i-preserved : goal.loop-i-preserved
loop-i-preserved c =
    let s = c.args.setting.now in
    let x = c.args.change.now.changed in
    let i = c.loop-i.i in
    let goes = IsGoingOn s x c.args.assertions.now c.args.verdicts.now (c.loop-i.i + 1) in
    elim c.if-is_open_at.branch [
      | then-is_open_at+in_ok-decision w ↦
          subst goes (sym (w.verdicts-is ∙ w.set.ensures ∙ ap (set c.loop-i.verdicts i) w.verdict_of.ensures))
          (going_set s x c.args.assertions.now c.args.verdicts.now i c.loop-i.verdicts c.loop-i.invariant c.index-assertions-i.result c.loop-i-test.true c.index-assertions-i.is
          (sym c.is_open_at.ensures ∙ w.if-is_open_at.true) w.in_ok-decision.decision w.in_ok-decision.ensures)
      | else-is_open_at w ↦
          subst goes (sym w.verdicts-is)
          (going_skip s x c.args.assertions.now c.args.verdicts.now i c.loop-i.verdicts c.loop-i.invariant c.index-assertions-i.result c.loop-i-test.true c.index-assertions-i.is
          (sym c.is_open_at.ensures ∙ w.if-is_open_at.false))
    ]
