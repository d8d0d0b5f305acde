use Rattle.std.proofs.Common.{rules, ◌≡◌, ◌<◌, ◌≤◌, ◌%◌, ℤ, pos, ◌≤ℤ◌, unsigned_abs, FitsSigned, w64, to_z, of_z, refl, sym, ap, subst, ◌∙◌, arith}
use Rattle.std.proofs.lemmas.Int.{ints, to_z-of_z}
use Rattle.dd_build.proofs.Tails.{IsInner, IsInner-mod, IsSettled-above, IsSettled-below}
use Rattle.dd_build.proofs.tail.by_divisor.Goals as goal

pub returns-then-sum-gt0 : goal.returns-then-sum-gt0
returns-then-sum-gt0 c =
    let fits : FitsSigned w64 c.args.sum = search rules in
    let is = to_z-of_z w64 c.args.sum fits in
    let size = c.unsigned_abs.ensures.value ∙ ap unsigned_abs is in
    let test = c.if-sum-gt0.true in
    let up : pos 1 ≤ℤ c.args.sum = grind (arith, ints, is, test) in
    let inner : IsInner c.args.tail.divisor (unsigned_abs c.args.sum) (c.unsigned_abs.result % c.args.tail.divisor) =
    subst (λ n. IsInner c.args.tail.divisor n (c.unsigned_abs.result % c.args.tail.divisor)) size (IsInner-mod c.args.tail.divisor c.unsigned_abs.result (omega (arith, c.if-tail-lt2.false)) c.if-inner-eq0.false) in
    IsSettled-above c.args.tail c.args.sum _ (c.unsigned_abs.result % c.args.tail.divisor) up inner refl (omega (arith, c.min-toward_zero.ensures)) (omega (arith, c.min-away.ensures)) (omega (arith, c.min-toward_zero.ensures)) (omega (arith, c.min-away.ensures))

pub returns-else-sum-gt0 : goal.returns-else-sum-gt0
returns-else-sum-gt0 c =
    let fits : FitsSigned w64 c.args.sum = search rules in
    let is = to_z-of_z w64 c.args.sum fits in
    let size = c.unsigned_abs.ensures.value ∙ ap unsigned_abs is in
    let test = c.if-sum-gt0.false in
    let down : c.args.sum ≤ℤ pos 0 = grind (arith, ints, is, test) in
    let inner : IsInner c.args.tail.divisor (unsigned_abs c.args.sum) (c.unsigned_abs.result % c.args.tail.divisor) =
    subst (λ n. IsInner c.args.tail.divisor n (c.unsigned_abs.result % c.args.tail.divisor)) size (IsInner-mod c.args.tail.divisor c.unsigned_abs.result (omega (arith, c.if-tail-lt2.false)) c.if-inner-eq0.false) in
    IsSettled-below c.args.tail c.args.sum _ (c.unsigned_abs.result % c.args.tail.divisor) down inner refl (omega (arith, c.min-away.ensures)) (omega (arith, c.min-toward_zero.ensures)) (omega (arith, c.min-away.ensures)) (omega (arith, c.min-toward_zero.ensures))
