use Rattle.std.proofs.Common.{rules, length, ap, subst, ◌∙◌}
use Rattle.std.specs.List.{range_with_len}
use Rattle.std.proofs.lemmas.List.{take_all}
use Rattle.scr_spec.specs.Relations.{is_monitored}
use Rattle.prove_invariants.proofs.Testing.{at_filtered}
use Rattle.prove_asserts.specs.declared.change.Change.{Change}
use Rattle.prove_asserts.specs.Judged.{HasEach}
use Rattle.prove_asserts.specs.Settings.{spec_in, IsJudgedBy}
use Rattle.prove_asserts.proofs.Judging.{change_there, judged_next}
use Rattle.prove_asserts.proofs.judge.judge_in.Goals as goal

pub of_change-requires-clause-monitored : goal.of_change-requires-clause-monitored
of_change-requires-clause-monitored c =
    let spec = spec_in c.args.setting.now in
    at_filtered (is_monitored spec) (range_with_len 0 (length spec.variables)) c.args.setting.now.monitored.now c.requires.set_up.monitored_are c.loop-x.x-index c.loop-x-test.true

pub test_each-requires-clause-change : goal.test_each-requires-clause-change
test_each-requires-clause-change c =
    let spec = spec_in c.args.setting.now in
    change_there c.args.setting.now _ c.in_ok-change.change
    (at_filtered (is_monitored spec) (range_with_len 0 (length spec.variables)) c.args.setting.now.monitored.now c.requires.set_up.monitored_are c.loop-x.x-index c.loop-x-test.true)
    c.in_ok-change.ensures

pub loop-x-preserved : goal.loop-x-preserved
loop-x-preserved c =
    judged_next c.args.setting.now c.args.assertions.now c.args.setting.now.monitored.now c.loop-x.x-index c.loop-x.verdicts _ c.in_ok-change.change.changed c.loop-x.invariant c.loop-x-test.true
    (ap (λ (m : Change). m.changed) c.in_ok-change.ensures)
    (search rules)

pub returns : goal.returns
returns c =
    subst (λ xs. HasEach (IsJudgedBy c.args.setting.now xs) c.args.assertions.now c.loop-x.verdicts)
    (take_all c.loop-x.x-index c.args.setting.now.monitored.now c.loop-x-test.false ∙ c.requires.set_up.monitored_are) c.loop-x.invariant
