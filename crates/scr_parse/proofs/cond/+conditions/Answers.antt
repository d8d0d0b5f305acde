use Rattle.std.proofs.Common.{arith, append_assoc}
use Rattle.std.proofs.lemmas.Result.{err_from_is_err_and, IfOk-weaker}
use Rattle.scr_parse.specs.Conds as spec
use Rattle.scr_parse.proofs.Once.{cond_once}
use Rattle.scr_parse.proofs.Reading.{handed_on, fewer}
use Rattle.scr_parse.proofs.CondSteps.{lit_to, conj_to, negated_at, behind_not, nested_at, behind_open, first_lit, after_and, first_conj, after_or}
use Rattle.scr_parse.proofs.cond.+conditions.Goals as goal

-- ---- a negation

pub read_lit-returns-in_err-inner-clause-refused : goal.read_lit-returns-in_err-inner-clause-refused
read_lit-returns-in_err-inner-clause-refused t c never d rest h =
    let inner = behind_not c.in-Some.ensures h in
    let p = err_from_is_err_and c.from_residual.result c.from_residual.ensures.1 in
    c.in_err-inner.ensures.refused (handed_on p.1 p.2 never) inner.0 rest inner.1

pub read_lit-returns-in-Some-clause-found : goal.read_lit-returns-in-Some-clause-found
read_lit-returns-in-Some-clause-found t c = negated_at c.in-Some.ensures c.in_ok-inner.ensures.found c.in_ok-new.ensures

-- ---- parentheses

pub read_lit-returns-in-Some-past_sign-clause-found : goal.read_lit-returns-in-Some-past_sign-clause-found
read_lit-returns-in-Some-past_sign-clause-found t c = IfOk-weaker _ _ _ (λ x inner. nested_at c.in-Some-past_sign.ensures inner.1 inner.2) c.read_nested.ensures.found

pub read_lit-returns-in-Some-past_sign-clause-refused : goal.read_lit-returns-in-Some-past_sign-clause-refused
read_lit-returns-in-Some-past_sign-clause-refused t c never d rest h =
    let inner = behind_open c.in-Some-past_sign.ensures h in c.read_nested.ensures.refused never inner.0 rest inner.1

pub read_nested-returns-in-None-clause-refused : goal.read_nested-returns-in-None-clause-refused
read_nested-returns-in-None-clause-refused t c never ds rest h =
    let e = cond_once c.in_ok-members.ensures.found h in c.in-None.ensures rest e.1

-- ---- AND

pub read_conj-returns-in_err-member-clause-refused : goal.read_conj-returns-in_err-member-clause-refused
read_conj-returns-in_err-member-clause-refused t c never ds rest h =
    let first = first_lit (c.members.invariant.back ds rest h).1 in
    let p = err_from_is_err_and c.from_residual.result c.from_residual.ensures.1 in
    c.in_err-member.ensures.refused (handed_on p.1 p.2 never) first.0 first.1 first.2

pub read_conj-members-preserved : goal.read_conj-members-preserved
read_conj-members-preserved t c =
    let at = c.in-Some in let got = c.in_ok-member in
    record {
      onward = λ ds end h. rw (c.in_ok-push.ensures.ok, append_assoc) (c.members.invariant.onward _ end (spec.lit_and (lit_to got.ensures.found at.ensures) h));
      back = λ ds end h. after_and got.ensures.found at.ensures (c.members.invariant.back ds end h).1;
      no_longer = omega (arith, c.members.invariant.no_longer, got.ensures.shorter, fewer got.after.now at.next.now at.ensures);
    }

pub read_conj-returns-in-None-clause-found : goal.read_conj-returns-in-None-clause-found
read_conj-returns-in-None-clause-found t c =
    rw c.in_ok-push.ensures.ok (c.members.invariant.onward _ _ (spec.last_lit c.in_ok-member.ensures.found c.in-None.ensures))

-- ---- OR

pub read_cond-returns-in_err-conj-clause-refused : goal.read_cond-returns-in_err-conj-clause-refused
read_cond-returns-in_err-conj-clause-refused t c never ds rest h =
    let first = first_conj (c.members.invariant.back ds rest h).1 in
    let p = err_from_is_err_and c.from_residual.result c.from_residual.ensures.1 in
    c.in_err-conj.ensures.refused (handed_on p.1 p.2 never) first.0 first.1 first.2

pub read_cond-members-preserved : goal.read_cond-members-preserved
read_cond-members-preserved t c =
    let at = c.in-Some in let got = c.in_ok-conj in
    record {
      onward = λ ds end h. rw (c.in_ok-push.ensures.ok, append_assoc, c.all_of.ensures) (c.members.invariant.onward _ end (spec.conj_or (conj_to got.ensures.found at.ensures) h));
      back = λ ds end h. after_or got.ensures.found at.ensures (c.members.invariant.back ds end h).1;
      no_longer = omega (arith, c.members.invariant.no_longer, got.ensures.shorter, fewer got.after.now at.next.now at.ensures);
    }

pub read_cond-returns-in-None-clause-found : goal.read_cond-returns-in-None-clause-found
read_cond-returns-in-None-clause-found t c =
    rw (c.in_ok-push.ensures.ok, c.all_of.ensures) (c.members.invariant.onward _ _ (spec.last_conj c.in_ok-conj.ensures.found c.in-None.ensures))
