use Rattle.std.proofs.Common.{List, refl, sym, subst}
use Rattle.scr_spec.specs.declared.spec.Spec.{Spec}
use Rattle.scr_spec.specs.Shown.{data_of}
use Rattle.scr_resolve_asserts.specs.declared.assertion.Assertion.{Assertion}
use Rattle.scr_resolve_asserts.specs.Texts.{AssertionsOf}
use Rattle.scr_resolve_asserts.proofs.Readings.{resolved_are_over}
use Rattle.prove_asserts.specs.Settings.{AreAssertionsOver}
use Rattle.cmd_assert.specs.Asserts.{IsRefusedWith, refused}
use Rattle.cmd_assert.proofs.Files.{judged_result}
use Rattle.cmd_assert.proofs.judging.assert_text.Goals as goal

pub judge-requires-clause-over : goal.judge-requires-clause-over
judge-requires-clause-over c =
    let whole = c.args.checked.now.spec in
    let text = c.args.text.now in
    let made : AssertionsOf text (data_of c.spec.result.now) c.in-Right.assertions = rw c.in-Right.is at c.in_ok-assertions.ensures in
    let known : AssertionsOf text (data_of whole) c.in-Right.assertions = subst (λ (s : Spec). AssertionsOf text (data_of s) c.in-Right.assertions) c.spec.ensures made in
    subst (λ (xs : List Assertion). AreAssertionsOver (data_of whole) xs) (sym c.as_slice.ensures) (resolved_are_over.over text (data_of whole) c.in-Right.assertions known)

pub returns-in-Right-clause-exact : goal.returns-in-Right-clause-exact
returns-in-Right-clause-exact c =
    let whole = c.args.checked.now.spec in
    let text = c.args.text.now in
    let made : AssertionsOf text (data_of c.spec.result.now) c.in-Right.assertions = rw c.in-Right.is at c.in_ok-assertions.ensures in
    let known : AssertionsOf text (data_of whole) c.in-Right.assertions = subst (λ (s : Spec). AssertionsOf text (data_of s) c.in-Right.assertions) c.spec.ensures made in
    let told : AssertionsOf text (data_of whole) c.as_slice.result.now = subst (λ (xs : List Assertion). AssertionsOf text (data_of whole) xs) (sym c.as_slice.ensures) known in
    judged_result c.args.limit (data_of whole) text c.as_slice.result.now c.judge.result told c.judge.ensures.exact

pub returns-in-Refused-clause-exact : goal.returns-in-Refused-clause-exact
returns-in-Refused-clause-exact c =
    let whole = c.args.checked.now.spec in
    let text = c.args.text.now in
    let line = c.in-Refused.line.items in
    let is : IsRefusedWith text (data_of c.spec.result.now) line = rw c.in-Refused.is at c.in_ok-assertions.ensures in
    refused (subst (λ (s : Spec). IsRefusedWith text (data_of s) line) c.spec.ensures is) refl
