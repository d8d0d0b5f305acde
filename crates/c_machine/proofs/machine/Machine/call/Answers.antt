use Rattle.std.proofs.Common.{◌≡◌, true, false, List, Some, None, sym, subst, ap, ◌∙◌, Ok, Err}
use Rattle.std.proofs.Common.{w64, length, arith}
use Rattle.std.proofs.lemmas.List.{with_items_is}
use Rattle.std.proofs.lemmas.Int.{to_z-of_z}
use Rattle.c_subset.specs.Runs.{takes_call, call_effect}
use Rattle.c_machine.specs.Actions.{replies_of}
use Rattle.c_machine.specs.Resolved.{by_name}
use Rattle.c_machine.specs.Runs.{outcome}
use Rattle.c_machine.specs.declared.machine.MachineFault.TheVariants.{NoFunction, Overflow}
use Rattle.c_machine.specs.Running.{Running, call_answer, after_call}
use Rattle.c_machine.proofs.Answered.{effect_same, answer_missing, after_missing, answer_given, after_given}
use Rattle.c_machine.proofs.machine.Machine.call.Goals as goal

pub returns-then-not-has_setter-clause-answer : goal.returns-then-not-has_setter-clause-answer
returns-then-not-has_setter-clause-answer c =
    let takes : takes_call c.self.inside.unit.now c.args.name.now ≡ false =
    ap (λ (m : Running). takes_call m.unit c.args.name.now) c.self.view_is ∙ sym c.has_setter.ensures ∙ c.if-not-has_setter.true
    in
    subst (λ (m : Running). Err NoFunction ≡ call_answer m c.args.name.now c.args.value) c.self.view_is
    (answer_missing c.self.inside.unit.now c.self.inside.row.items c.args.name.now c.args.value takes)

pub returns-then-not-has_setter-clause-after : goal.returns-then-not-has_setter-clause-after
returns-then-not-has_setter-clause-after c =
    let takes : takes_call c.self.inside.unit.now c.args.name.now ≡ false =
    ap (λ (m : Running). takes_call m.unit c.args.name.now) c.self.view_is ∙ sym c.has_setter.ensures ∙ c.if-not-has_setter.true
    in
    subst (λ (m : Running). m ≡ after_call m c.args.name.now c.args.value) c.self.view_is
    (after_missing c.self.inside.unit.now c.self.inside.row.items c.args.name.now c.args.value takes)

pub returns-then-attempt-clause-answer : goal.returns-then-attempt-clause-answer
returns-then-attempt-clause-answer c =
    let takes : takes_call c.self.inside.unit.now c.args.name.now ≡ true =
    ap (λ (m : Running). takes_call m.unit c.args.name.now) c.self.view_is ∙ sym c.has_setter.ensures ∙ c.if-not-has_setter.false
    in
    let effect : call_effect c.self.inside.unit.now c.args.name.now c.args.value c.self.inside.row.items ≡ Some c.attempt.new.spare =
    effect_same c.self.inside.unit.now c.self.inside.code c.args.name.now c.args.value c.self.inside.row.items c.self.invariant.numbered
    ∙ ap (by_name c.self.inside.code.names (replies_of c.self.inside.code.routines) c.args.name.now (Some c.args.value)) (sym c.as_slice.ensures.value)
    ∙ ap (λ z. by_name c.self.inside.code.names (replies_of c.self.inside.code.routines) c.args.name.now (Some z) c.as_slice.result.now) (sym (to_z-of_z w64 c.args.value c.ranges.value))
    ∙ c.attempt.ensures ∙ ap (λ b. outcome b c.attempt.new.spare) c.if-attempt.true
    in
    subst (λ (m : Running). Ok tt ≡ call_answer m c.args.name.now c.args.value) c.self.view_is
    (answer_given c.self.inside.unit.now c.self.inside.row.items c.args.name.now c.args.value (Some c.attempt.new.spare) takes effect)

pub returns-then-attempt-clause-after : goal.returns-then-attempt-clause-after
returns-then-attempt-clause-after c =
    let takes : takes_call c.self.inside.unit.now c.args.name.now ≡ true =
    ap (λ (m : Running). takes_call m.unit c.args.name.now) c.self.view_is ∙ sym c.has_setter.ensures ∙ c.if-not-has_setter.false
    in
    let effect : call_effect c.self.inside.unit.now c.args.name.now c.args.value c.self.inside.row.items ≡ Some c.attempt.new.spare =
    effect_same c.self.inside.unit.now c.self.inside.code c.args.name.now c.args.value c.self.inside.row.items c.self.invariant.numbered
    ∙ ap (by_name c.self.inside.code.names (replies_of c.self.inside.code.routines) c.args.name.now (Some c.args.value)) (sym c.as_slice.ensures.value)
    ∙ ap (λ z. by_name c.self.inside.code.names (replies_of c.self.inside.code.routines) c.args.name.now (Some z) c.as_slice.result.now) (sym (to_z-of_z w64 c.args.value c.ranges.value))
    ∙ c.attempt.ensures ∙ ap (λ b. outcome b c.attempt.new.spare) c.if-attempt.true
    in
    let full : length c.attempt.new.spare ≡ c.self.inside.spare.len = omega arith in
    let row : c.swap.new.x.items ≡ c.attempt.new.spare = ap (λ v. v.items) c.swap.ensures.x_after ∙ with_items_is c.self.inside.spare c.attempt.new.spare full in
    ap (λ (r : List _). record { unit = c.self.inside.unit.now; objects = r }) row
    ∙ subst (λ (m : Running). record { unit = c.self.inside.unit.now; objects = c.attempt.new.spare } ≡ after_call m c.args.name.now c.args.value) c.self.view_is
    (after_given c.self.inside.unit.now c.self.inside.row.items c.args.name.now c.args.value (Some c.attempt.new.spare) takes effect)

pub returns-else-attempt-clause-answer : goal.returns-else-attempt-clause-answer
returns-else-attempt-clause-answer c =
    let takes : takes_call c.self.inside.unit.now c.args.name.now ≡ true =
    ap (λ (m : Running). takes_call m.unit c.args.name.now) c.self.view_is ∙ sym c.has_setter.ensures ∙ c.if-not-has_setter.false
    in
    let effect : call_effect c.self.inside.unit.now c.args.name.now c.args.value c.self.inside.row.items ≡ None =
    effect_same c.self.inside.unit.now c.self.inside.code c.args.name.now c.args.value c.self.inside.row.items c.self.invariant.numbered
    ∙ ap (by_name c.self.inside.code.names (replies_of c.self.inside.code.routines) c.args.name.now (Some c.args.value)) (sym c.as_slice.ensures.value)
    ∙ ap (λ z. by_name c.self.inside.code.names (replies_of c.self.inside.code.routines) c.args.name.now (Some z) c.as_slice.result.now) (sym (to_z-of_z w64 c.args.value c.ranges.value))
    ∙ c.attempt.ensures ∙ ap (λ b. outcome b c.attempt.new.spare) c.if-attempt.false
    in
    subst (λ (m : Running). Err Overflow ≡ call_answer m c.args.name.now c.args.value) c.self.view_is
    (answer_given c.self.inside.unit.now c.self.inside.row.items c.args.name.now c.args.value None takes effect)

pub returns-else-attempt-clause-after : goal.returns-else-attempt-clause-after
returns-else-attempt-clause-after c =
    let takes : takes_call c.self.inside.unit.now c.args.name.now ≡ true =
    ap (λ (m : Running). takes_call m.unit c.args.name.now) c.self.view_is ∙ sym c.has_setter.ensures ∙ c.if-not-has_setter.false
    in
    let effect : call_effect c.self.inside.unit.now c.args.name.now c.args.value c.self.inside.row.items ≡ None =
    effect_same c.self.inside.unit.now c.self.inside.code c.args.name.now c.args.value c.self.inside.row.items c.self.invariant.numbered
    ∙ ap (by_name c.self.inside.code.names (replies_of c.self.inside.code.routines) c.args.name.now (Some c.args.value)) (sym c.as_slice.ensures.value)
    ∙ ap (λ z. by_name c.self.inside.code.names (replies_of c.self.inside.code.routines) c.args.name.now (Some z) c.as_slice.result.now) (sym (to_z-of_z w64 c.args.value c.ranges.value))
    ∙ c.attempt.ensures ∙ ap (λ b. outcome b c.attempt.new.spare) c.if-attempt.false
    in
    subst (λ (m : Running). record { unit = c.self.inside.unit.now; objects = c.self.inside.row.items } ≡ after_call m c.args.name.now c.args.value) c.self.view_is
    (after_given c.self.inside.unit.now c.self.inside.row.items c.args.name.now c.args.value None takes effect)
