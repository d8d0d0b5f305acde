use Rattle.std.proofs.Common.{List, ℕ, map, string_bytes, refl, sym, subst}
use Rattle.std.specs.Prelude.{nat_lt, length}
use Rattle.scr_spec.specs.declared.spec.Spec.{Spec}
use Rattle.scr_spec.specs.Shown.{data_of}
use Rattle.scr_slice.specs.Slices.{HoldsEach}
use Rattle.cmd_slice.specs.Names.{AreNumbers, IsUnknownLine}
use Rattle.cmd_slice.specs.Slicing.{IsSliceText, unknown, sliced}
use Rattle.cmd_slice.proofs.Naming.{numbers_within}
use Rattle.cmd_slice.proofs.slicing.answer_for.Goals as goal

pub text_of-requires : goal.text_of-requires
text_of-requires c =
    let whole = c.args.checked.now.spec in
    let words = map string_bytes c.args.words.now in
    let numbers = c.in-Variables.numbers in
    let named : AreNumbers (data_of c.spec.result.now) words numbers = rw c.in-Variables.is at c.in_ok-numbers.ensures in
    let known : AreNumbers (data_of whole) words numbers = subst (λ (s : Spec). AreNumbers (data_of s) words numbers) c.spec.ensures named in
    subst (λ (ns : List ℕ). HoldsEach ns (λ v. nat_lt v (length whole.variables))) (sym c.as_slice.ensures) (numbers_within (data_of whole) words numbers known)

pub returns-in_ok-text_of-in-Variables-clause-exact : goal.returns-in_ok-text_of-in-Variables-clause-exact
returns-in_ok-text_of-in-Variables-clause-exact c =
    let whole = c.args.checked.now.spec in
    let words = map string_bytes c.args.words.now in
    let numbers = c.in-Variables.numbers in
    let out = c.in_ok-text_of-in-Variables.field-0.items in
    let named : AreNumbers (data_of c.spec.result.now) words numbers = rw c.in-Variables.is at c.in_ok-numbers.ensures in
    let known : AreNumbers (data_of whole) words numbers = subst (λ (s : Spec). AreNumbers (data_of s) words numbers) c.spec.ensures named in
    sliced numbers known (subst (λ (ns : List ℕ). IsSliceText (data_of whole) ns out) c.as_slice.ensures c.in_ok-text_of-in-Variables.ensures) refl

pub returns-in-Refused-clause-exact : goal.returns-in-Refused-clause-exact
returns-in-Refused-clause-exact c =
    let whole = c.args.checked.now.spec in
    let words = map string_bytes c.args.words.now in
    let first : IsUnknownLine (data_of c.spec.result.now) words c.in-Refused.line.items = rw c.in-Refused.is at c.in_ok-numbers.ensures in
    let said : IsUnknownLine (data_of whole) words c.in-Refused.line.items = subst (λ (s : Spec). IsUnknownLine (data_of s) words c.in-Refused.line.items) c.spec.ensures first in
    unknown said.word said.first said.said refl
