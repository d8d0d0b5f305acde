use Rattle.std.proofs.Common.{rules, ◌+◌, ◌*◌, ◌≤◌, unsigned_abs, FitsSigned, w64, subst, sym, ◌∙◌, ap}
use Rattle.std.proofs.lemmas.Int.{to_z-of_z}
use Rattle.std.specs.Int.{IsGcd}
use Rattle.dd_formula.specs.Domains.{domain_bound}
use Rattle.dd_build.specs.Tails.{AreEnds}
use Rattle.dd_build.proofs.Tails.{IsReckonedEnd, reckoned_end, IsWithTerm-ends}
use Rattle.dd_build.proofs.tail.with_term.Goals as goal

pub overflow_mul-result : goal.overflow_mul-result
overflow_mul-result c =
    let factor : FitsSigned w64 c.args.term.factor = search rules in
    let first : FitsSigned w64 c.ends_for-first.result.0 = search rules in
    (reckoned_end c.args.tail.least c.args.term.factor c.ends_for-first.result.0 (domain_bound c.args.domain) factor first c.ends_for-first.ensures.first c.requires.low).product

pub overflow_add-result : goal.overflow_add-result
overflow_add-result c =
    let factor : FitsSigned w64 c.args.term.factor = search rules in
    let first : FitsSigned w64 c.ends_for-first.result.0 = search rules in
    (reckoned_end c.args.tail.least c.args.term.factor c.ends_for-first.result.0 (domain_bound c.args.domain) factor first c.ends_for-first.ensures.first c.requires.low).sum

pub overflow_mul-result-2 : goal.overflow_mul-result-2
overflow_mul-result-2 c =
    let factor : FitsSigned w64 c.args.term.factor = search rules in
    let last : FitsSigned w64 c.ends_for-first.result.1 = search rules in
    (reckoned_end c.args.tail.greatest c.args.term.factor c.ends_for-first.result.1 (domain_bound c.args.domain) factor last c.ends_for-first.ensures.last c.requires.high).product

pub overflow_add-result-2 : goal.overflow_add-result-2
overflow_add-result-2 c =
    let factor : FitsSigned w64 c.args.term.factor = search rules in
    let last : FitsSigned w64 c.ends_for-first.result.1 = search rules in
    (reckoned_end c.args.tail.greatest c.args.term.factor c.ends_for-first.result.1 (domain_bound c.args.domain) factor last c.ends_for-first.ensures.last c.requires.high).sum

pub returns : goal.returns
returns c =
    let factor : FitsSigned w64 c.args.term.factor = search rules in
    let first : FitsSigned w64 c.ends_for-first.result.0 = search rules in
    let last : FitsSigned w64 c.ends_for-first.result.1 = search rules in
    let low = reckoned_end c.args.tail.least c.args.term.factor c.ends_for-first.result.0 (domain_bound c.args.domain) factor first c.ends_for-first.ensures.first c.requires.low in
    let high = reckoned_end c.args.tail.greatest c.args.term.factor c.ends_for-first.result.1 (domain_bound c.args.domain) factor last c.ends_for-first.ensures.last c.requires.high in
    let is = to_z-of_z w64 c.args.term.factor factor in
    IsWithTerm-ends c.args.tail _ c.args.term c.args.domain c.ends_for-first.result (subst (λ f. AreEnds f c.args.domain c.ends_for-first.result) is c.ends_for-first.ensures) low.is high.is
    (subst (λ n. IsGcd c.args.tail.divisor n c.common_divisor.result) (c.unsigned_abs.ensures.value ∙ ap unsigned_abs is) c.common_divisor.ensures)
    (subst (λ z. unsigned_abs z ≤ unsigned_abs c.args.tail.least + unsigned_abs c.args.term.factor * domain_bound c.args.domain) (sym low.is) low.size)
    (subst (λ z. unsigned_abs z ≤ unsigned_abs c.args.tail.greatest + unsigned_abs c.args.term.factor * domain_bound c.args.domain) (sym high.is) high.size)
