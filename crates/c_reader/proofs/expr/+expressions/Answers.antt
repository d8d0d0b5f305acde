use Rattle.std.proofs.Common.{◌≡◌, ◌-◌, suc, arith, append_assoc, ◌∙◌}
use Rattle.std.proofs.lemmas.Result.{err_from_is_err_and, IfOk-weaker}
use Rattle.c_reader.specs.Grammar as spec
use Rattle.c_reader.proofs.Once.{disjunction_once}
use Rattle.c_reader.proofs.Reading.{handed_on, fewer}
use Rattle.c_reader.proofs.ExprSteps.{unary_to, comparison_to, conjunction_to, nested_at, behind_open, minus_at, not_at, first_unary, after_times, first_product, after_sign, sign_then, compare_at, alone_at, second_sum, first_comparison, after_and, first_conjunction, after_or}
use Rattle.c_reader.proofs.expr.+expressions.Goals as goal

-- ---- parentheses

pub read_nested-returns-in-Some-clause-found : goal.read_nested-returns-in-Some-clause-found
read_nested-returns-in-Some-clause-found t c =
    let more : c.args.room ≡ suc (c.args.room - 1) = (let some = c.if-room-eq0.false in omega arith) in
    nested_at more c.in_ok-members.ensures.found c.in-Some.ensures.word c.any_of.ensures

pub read_nested-returns-in-None-clause-refused : goal.read_nested-returns-in-None-clause-refused
read_nested-returns-in-None-clause-refused t c never x rest h =
    let more : c.args.room ≡ suc (c.args.room - 1) = (let some = c.if-room-eq0.false in omega arith) in
    let inner = behind_open more h in
    let e = disjunction_once c.in_ok-members.ensures.found inner.1 in c.in-None.ensures.word rest e.1

-- ---- `-` and `!`

pub read_unary-returns-clause-found : goal.read_unary-returns-clause-found
read_unary-returns-clause-found t c = IfOk-weaker _ _ _ (λ x d. spec.plain d) c.read_primary-2.ensures.found

pub read_unary-returns-in-Some-clause-found : goal.read_unary-returns-in-Some-clause-found
read_unary-returns-in-Some-clause-found t c = minus_at c.in-Some.ensures.word c.in_ok-inner.ensures.found c.in_ok-new.ensures

pub read_unary-returns-in-Some-past_sign-clause-found : goal.read_unary-returns-in-Some-past_sign-clause-found
read_unary-returns-in-Some-past_sign-clause-found t c = not_at c.in-Some-past_sign.ensures.word c.in_ok-inner-2.ensures.found c.in_ok-new-2.ensures

-- ---- products

pub read_product-returns-in_err-member-clause-refused : goal.read_product-returns-in_err-member-clause-refused
read_product-returns-in_err-member-clause-refused t c never xs rest h =
    let first = first_unary (c.members.invariant.back xs rest h).1 in
    let p = err_from_is_err_and c.from_residual.result c.from_residual.ensures.1 in
    c.in_err-member.ensures.refused (handed_on p.1 p.2 never) first.0 first.1 first.2

pub read_product-members-preserved : goal.read_product-members-preserved
read_product-members-preserved t c =
    let at = c.in-Some in let got = c.in_ok-member in
    record {
      onward = λ xs end h. rw (c.in_ok-push.ensures.ok, append_assoc) (c.members.invariant.onward _ end (spec.unary_times (unary_to got.ensures.found at.ensures.word) h));
      back = λ xs end h. after_times got.ensures.found at.ensures.word (c.members.invariant.back xs end h).1;
      no_longer = omega (arith, c.members.invariant.no_longer, got.ensures.shorter, fewer at.ensures.word);
      cut = at.ensures.cut;
    }

pub read_product-returns-in-None-clause-found : goal.read_product-returns-in-None-clause-found
read_product-returns-in-None-clause-found t c =
    rw (c.in_ok-push.ensures.ok) (c.members.invariant.onward _ _ (spec.last_unary c.in_ok-member.ensures.found c.in-None.ensures.word))

-- ---- sums

pub read_sum-returns-in_err-members-clause-refused : goal.read_sum-returns-in_err-members-clause-refused
read_sum-returns-in_err-members-clause-refused t c never ts rest h =
    let first = first_product (c.terms.invariant.back ts rest h).1 in
    let p = err_from_is_err_and c.from_residual.result c.from_residual.ensures.1 in
    c.in_err-members.ensures.refused (handed_on p.1 p.2 never) first.0 first.1 first.2

pub read_sum-terms-preserved : goal.read_sum-terms-preserved
read_sum-terms-preserved t c =
    let at = c.in-Some in let got = c.in_ok-members in
    record {
      onward = λ ts end h. rw (c.in_ok-push.ensures.ok, append_assoc, c.product_of.ensures) (c.terms.invariant.onward _ end (sign_then at.minus got.ensures.found at.ensures.word h));
      back = λ ts end h. after_sign at.minus got.ensures.found at.ensures.word (c.terms.invariant.back ts end h).1;
      no_longer = omega (arith, c.terms.invariant.no_longer, got.ensures.shorter, fewer at.ensures.word);
      cut = at.ensures.cut;
    }

pub read_sum-returns-in-None-clause-found : goal.read_sum-returns-in-None-clause-found
read_sum-returns-in-None-clause-found t c =
    let none = c.in-None.ensures.word in
    rw (c.in_ok-push.ensures.ok, c.product_of.ensures) (c.terms.invariant.onward _ _ (spec.last_product c.in_ok-members.ensures.found none.0 none.1))

-- ---- comparisons

pub read_comparison-returns-in_err-right-in-Some-clause-refused : goal.read_comparison-returns-in_err-right-in-Some-clause-refused
read_comparison-returns-in_err-right-in-Some-clause-refused t c never x rest h =
    let second = second_sum c.in-Some.relation c.in_ok-left.ensures.found c.in-Some.ensures.word h in
    let p = err_from_is_err_and c.from_residual-in_err-right-in-Some.result c.from_residual-in_err-right-in-Some.ensures.1 in
    c.in_err-right-in-Some.ensures.refused (handed_on p.1 p.2 never) second.0 rest second.1

pub read_comparison-returns-in_ok-right-in-Some-2-clause-found : goal.read_comparison-returns-in_ok-right-in-Some-2-clause-found
read_comparison-returns-in_ok-right-in-Some-2-clause-found t c =
    compare_at c.in_ok-left.ensures.found c.in-Some.ensures.word c.in_ok-right-in-Some.ensures.found (c.in_ok-left-in-Some.ensures ∙ c.sum_of.ensures)
    (c.in_ok-right-in-Some-2.ensures ∙ c.sum_of-in-Some.ensures)

pub read_comparison-returns-in-None-clause-found : goal.read_comparison-returns-in-None-clause-found
read_comparison-returns-in-None-clause-found t c = alone_at c.in_ok-left.left (spec.alone c.in_ok-left.ensures.found c.in-None.ensures.word) c.sum_of-in-None.ensures

-- ---- `&&` and `||`

pub read_conjunction-returns-in_err-member-clause-refused : goal.read_conjunction-returns-in_err-member-clause-refused
read_conjunction-returns-in_err-member-clause-refused t c never xs rest h =
    let first = first_comparison (c.members.invariant.back xs rest h).1 in
    let p = err_from_is_err_and c.from_residual.result c.from_residual.ensures.1 in
    c.in_err-member.ensures.refused (handed_on p.1 p.2 never) first.0 first.1 first.2

pub read_conjunction-members-preserved : goal.read_conjunction-members-preserved
read_conjunction-members-preserved t c =
    let at = c.in-Some in let got = c.in_ok-member in
    record {
      onward = λ xs end h. rw (c.in_ok-push.ensures.ok, append_assoc) (c.members.invariant.onward _ end (spec.comparison_and (comparison_to got.ensures.found at.ensures.word) h));
      back = λ xs end h. after_and got.ensures.found at.ensures.word (c.members.invariant.back xs end h).1;
      no_longer = omega (arith, c.members.invariant.no_longer, got.ensures.shorter, fewer at.ensures.word);
      cut = at.ensures.cut;
    }

pub read_conjunction-returns-in-None-clause-found : goal.read_conjunction-returns-in-None-clause-found
read_conjunction-returns-in-None-clause-found t c =
    rw (c.in_ok-push.ensures.ok) (c.members.invariant.onward _ _ (spec.last_comparison c.in_ok-member.ensures.found c.in-None.ensures.word))

pub read_disjunction-returns-in_err-member-clause-refused : goal.read_disjunction-returns-in_err-member-clause-refused
read_disjunction-returns-in_err-member-clause-refused t c never xs rest h =
    let first = first_conjunction (c.members.invariant.back xs rest h).1 in
    let p = err_from_is_err_and c.from_residual.result c.from_residual.ensures.1 in
    c.in_err-member.ensures.refused (handed_on p.1 p.2 never) first.0 first.1 first.2

pub read_disjunction-members-preserved : goal.read_disjunction-members-preserved
read_disjunction-members-preserved t c =
    let at = c.in-Some in let got = c.in_ok-member in
    record {
      onward = λ xs end h. rw (c.in_ok-push.ensures.ok, append_assoc, c.all_of.ensures) (c.members.invariant.onward _ end (spec.conjunction_or (conjunction_to got.ensures.found at.ensures.word) h));
      back = λ xs end h. after_or got.ensures.found at.ensures.word (c.members.invariant.back xs end h).1;
      no_longer = omega (arith, c.members.invariant.no_longer, got.ensures.shorter, fewer at.ensures.word);
      cut = at.ensures.cut;
    }

pub read_disjunction-returns-in-None-clause-found : goal.read_disjunction-returns-in-None-clause-found
read_disjunction-returns-in-None-clause-found t c =
    rw (c.in_ok-push.ensures.ok, c.all_of.ensures) (c.members.invariant.onward _ _ (spec.last_conjunction c.in_ok-member.ensures.found c.in-None.ensures.word))
