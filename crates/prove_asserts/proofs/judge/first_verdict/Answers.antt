use Rattle.std.proofs.Common.{sym, ◌∙◌}
use Rattle.std.proofs.lemmas.Bool.{false≢true}
use Rattle.prove_asserts.specs.Judged.{HoldsAtFirst, all_passed, false_at_first, tested}
use Rattle.prove_asserts.specs.Settings.{spec_in}
use Rattle.prove_asserts.proofs.judge.first_verdict.Goals as goal
use Rattle.prove_asserts.proofs.judge.first_verdict.Goals.{else-not-a-via-then-not-a+else-not-cond_holds, else-not-a-via-else-not-a}

pub returns-then-not-cond_holds : goal.returns-then-not-cond_holds
returns-then-not-cond_holds c = false_at_first c.if-not-a.true (sym c.cond_holds.ensures ∙ c.if-not-cond_holds.true)

pub returns : goal.returns
returns c =
    let holds : HoldsAtFirst (spec_in c.args.setting.now) c.args.setting.now.first.now.codes c.args.a.now = elim c.else-not-a.branch [
      | else-not-a-via-then-not-a+else-not-cond_holds w ↦ λ e. sym w.cond_holds.ensures ∙ w.if-not-cond_holds.false
      | else-not-a-via-else-not-a w ↦ λ e. absurd (false≢true (sym e ∙ w.if-not-a.false))
    ] in
    tested holds all_passed
