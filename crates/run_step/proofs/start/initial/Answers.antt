use Rattle.std.proofs.Common.{rules, false, ◌≡◌, ℤ, w64, FitsSigned, get_or, set, arith, ap, subst, ◌∙◌}
use Rattle.std.proofs.lemmas.Int.{to_z-of_z}
use Rattle.scr_spec.specs.declared.spec.Spec.{Spec}
use Rattle.scr_spec.specs.declared.state.State.{State}
use Rattle.scr_spec.specs.Relations.{has_condition_table}
use Rattle.run_step.specs.Settled.{IsOwnAt}
use Rattle.scr_spec.specs.Shown.{data_of}
use Rattle.run_step.proofs.Calls.{initial_first, initial_within, initial_given, initial_still, initial_whole}
use Rattle.run_step.proofs.start.initial.Goals as goal
use Rattle.run_step.proofs.start.initial.Goals.{in-Some, in_default}

pub loop-v-init : goal.loop-v-init
loop-v-init c =
    let k = c.args.checked.now in
    initial_first (data_of k.spec) k.order k.spec.sound k.ordered k.right c.in_ok-codes.codes (cc (c.in_ok-codes.ensures, c.spec-spec.ensures))

pub set_code-requires : goal.set_code-requires
set_code-requires c =
    let k = c.args.checked.now in
    initial_within (data_of k.spec) k.order k.spec.sound k.ordered k.right c.as_slice-v-items.result.now c.loop-v.v-index c.loop-v.first.codes c.as_slice-v-items.ensures c.loop-v-test.true c.loop-v.invariant

pub loop-v-preserved : goal.loop-v-preserved
loop-v-preserved c =
    let k = c.args.checked.now in
    let items = c.as_slice-v-items.result.now in
    let i = c.loop-v.v-index in
    let at = c.loop-v.first.codes in
    elim c.match-own_code.branch [
      | in-Some w ↦
          let fits : FitsSigned w64 w.in-Some.code = search rules in
          let own : IsOwnAt (data_of k.spec) (get_or items i 0) at w.in-Some.code = subst (λ (s : Spec). IsOwnAt (data_of s) (get_or items i 0) at w.in-Some.code) c.spec-spec.ensures w.in-Some.ensures in
          initial_given (data_of k.spec) k.order k.spec.sound k.ordered k.right items i at w.in-Some.code c.match-own_code.first.codes c.as_slice-v-items.ensures c.loop-v-test.true c.loop-v.invariant own
          (ap (λ (s : State). s.codes) w.first-is ∙ w.set_code.ensures ∙ ap (λ (z : ℤ). set at (get_or items i 0) z) (to_z-of_z w64 w.in-Some.code fits))
      | in_default w ↦
          let other : has_condition_table (data_of k.spec) (get_or items i 0) ≡ false = subst (λ (s : Spec). has_condition_table (data_of s) (get_or items i 0) ≡ false) c.spec-spec.ensures w.in_default.ensures in
          initial_still (data_of k.spec) k.order k.spec.sound k.ordered k.right items i at c.match-own_code.first.codes c.as_slice-v-items.ensures c.loop-v.invariant other (ap (λ (s : State). s.codes) w.first-is)
    ]

pub returns : goal.returns
returns c =
    let k = c.args.checked.now in
    initial_whole (data_of k.spec) k.order k.spec.sound k.ordered k.right c.as_slice-v-items.result.now c.loop-v.v-index c.loop-v.first.codes c.as_slice-v-items.ensures c.loop-v-test.false (omega arith) c.loop-v.invariant
