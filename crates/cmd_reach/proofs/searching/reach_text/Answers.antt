use Rattle.std.proofs.Common.{List, refl, sym, subst}
use Rattle.std.specs.Prelude.{IsTrue}
use Rattle.std.specs.List.{list_all}
use Rattle.scr_spec.specs.declared.spec.Spec.{Spec}
use Rattle.scr_spec.specs.Shown.{data_of}
use Rattle.scr_spec.specs.Over.{is_cond_over}
use Rattle.scr_resolve_asserts.specs.declared.assertion.Assertion.{Assertion}
use Rattle.scr_resolve_asserts.specs.Texts.{AssertionsOf}
use Rattle.scr_resolve_asserts.proofs.Readings.{resolved_are_over}
use Rattle.cmd_reach.specs.Reaches.{IsRefusedWith, refused}
use Rattle.cmd_reach.proofs.Files.{searched_result}
use Rattle.cmd_reach.proofs.searching.reach_text.Goals as goal

pub reach-requires-clause-over : goal.reach-requires-clause-over
reach-requires-clause-over c =
    let whole = c.args.checked.now in
    let text = c.args.text.now in
    let made : AssertionsOf text (data_of c.spec.result.now) c.in-Right.assertions = rw c.in-Right.is at c.in_ok-assertions.ensures in
    let known : AssertionsOf text (data_of whole.spec) c.in-Right.assertions = subst (λ (s : Spec). AssertionsOf text (data_of s) c.in-Right.assertions) c.spec.ensures made in
    subst (λ (xs : List Assertion). IsTrue (list_all (λ a. is_cond_over (data_of whole.spec) a.cond) xs)) (sym c.as_slice.ensures)
    (resolved_are_over.over text (data_of whole.spec) c.in-Right.assertions known)

pub returns-in-Right-clause-exact : goal.returns-in-Right-clause-exact
returns-in-Right-clause-exact c =
    let whole = c.args.checked.now in
    let text = c.args.text.now in
    let made : AssertionsOf text (data_of c.spec.result.now) c.in-Right.assertions = rw c.in-Right.is at c.in_ok-assertions.ensures in
    let known : AssertionsOf text (data_of whole.spec) c.in-Right.assertions = subst (λ (s : Spec). AssertionsOf text (data_of s) c.in-Right.assertions) c.spec.ensures made in
    let told : AssertionsOf text (data_of whole.spec) c.as_slice.result.now = subst (λ (xs : List Assertion). AssertionsOf text (data_of whole.spec) xs) (sym c.as_slice.ensures) known in
    searched_result c.args.most (data_of whole.spec) text c.as_slice.result.now c.reach.result told c.reach.ensures.exact

pub returns-in-Refused-clause-exact : goal.returns-in-Refused-clause-exact
returns-in-Refused-clause-exact c =
    let whole = c.args.checked.now in
    let text = c.args.text.now in
    let line = c.in-Refused.line.items in
    let is : IsRefusedWith text (data_of c.spec.result.now) line = rw c.in-Refused.is at c.in_ok-assertions.ensures in
    refused (subst (λ (s : Spec). IsRefusedWith text (data_of s) line) c.spec.ensures is) refl
