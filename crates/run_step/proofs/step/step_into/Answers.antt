use Rattle.std.proofs.Common.{rules, List, ℤ, w64, FitsSigned, get_or, set, arith, ap, ◌∙◌}
use Rattle.std.proofs.lemmas.Int.{to_z-of_z}
use Rattle.scr_spec.specs.declared.state.State.{State}
use Rattle.scr_spec.specs.Shown.{data_of}
use Rattle.run_step.proofs.Calls.{next_first, next_within, next_given, next_untouched, next_whole}
use Rattle.run_step.proofs.step.step_into.Goals as goal
use Rattle.run_step.proofs.step.step_into.Goals.{in-Some, in_default}

pub loop-v-init : goal.loop-v-init
loop-v-init c =
    let k = c.args.checked.now in
    let fits : FitsSigned w64 c.args.input.code = search rules in
    next_first (data_of k.spec) k.order c.args.old.now.codes c.args.input k.spec.sound k.ordered k.right c.requires.consistent c.requires.may_come c.set_code.new.codes
    (c.set_code.ensures ∙ ap (λ (z : ℤ). set c.copy_codes.new.to.codes c.args.input.variable z) (to_z-of_z w64 c.args.input.code fits)
    ∙ ap (λ (xs : List ℤ). set xs c.args.input.variable c.args.input.code) c.copy_codes.ensures)

pub set_code-requires-in-Some : goal.set_code-requires-in-Some
set_code-requires-in-Some c =
    let k = c.args.checked.now in
    next_within (data_of k.spec) k.order c.args.old.now.codes c.args.input k.spec.sound k.ordered k.right c.requires.consistent c.requires.may_come
    c.as_slice-v-items.result.now c.loop-v.v-index c.loop-v.new.codes c.as_slice-v-items.ensures c.loop-v-test.true c.loop-v.invariant

pub loop-v-preserved : goal.loop-v-preserved
loop-v-preserved c =
    let k = c.args.checked.now in
    let items = c.as_slice-v-items.result.now in
    let i = c.loop-v.v-index in
    let new = c.loop-v.new.codes in
    elim c.match-next_code.branch [
      | in-Some w ↦
          let fits : FitsSigned w64 w.in-Some.code = search rules in
          next_given (data_of k.spec) k.order c.args.old.now.codes c.args.input k.spec.sound k.ordered k.right c.requires.consistent c.requires.may_come
          items i new w.in-Some.code c.match-next_code.new.codes c.as_slice-v-items.ensures c.loop-v-test.true c.loop-v.invariant w.in-Some.ensures
          (ap (λ (s : State). s.codes) w.new-is ∙ w.set_code-in-Some.ensures ∙ ap (λ (z : ℤ). set new (get_or items i 0) z) (to_z-of_z w64 w.in-Some.code fits))
      | in_default w ↦
          next_untouched (data_of k.spec) k.order c.args.old.now.codes c.args.input k.spec.sound k.ordered k.right c.requires.consistent c.requires.may_come
          items i new c.match-next_code.new.codes c.as_slice-v-items.ensures c.loop-v-test.true c.loop-v.invariant w.in_default.ensures (ap (λ (s : State). s.codes) w.new-is)
    ]

pub returns : goal.returns
returns c =
    let k = c.args.checked.now in
    next_whole (data_of k.spec) k.order c.args.old.now.codes c.args.input k.spec.sound k.ordered k.right c.requires.consistent c.requires.may_come
    c.as_slice-v-items.result.now c.loop-v.v-index c.loop-v.new.codes c.as_slice-v-items.ensures c.loop-v-test.false (omega arith) c.loop-v.invariant
