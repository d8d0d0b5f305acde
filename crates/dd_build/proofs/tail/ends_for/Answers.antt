use Rattle.std.proofs.Common.{rules, FitsSigned, w64, to_z, of_z, pos, ℤ, ◌≤ℤ◌, ap, ap₂, sym, subst, ◌∙◌, arith}
use Rattle.std.proofs.lemmas.Int.{ints, to_z-of_z}
use Rattle.dd_build.specs.Tails.{AreEnds}
use Rattle.dd_build.proofs.Tails.{AreEnds-rising, AreEnds-falling}
use Rattle.dd_build.proofs.tail.ends_for.Goals as goal

pub returns-then-factor-gt0 : goal.returns-then-factor-gt0
returns-then-factor-gt0 c =
    let factor : FitsSigned w64 c.args.factor = search rules in
    let lo : FitsSigned w64 c.args.domain.lo = search rules in
    let hi : FitsSigned w64 c.args.domain.hi = search rules in
    let up : pos 0 ≤ℤ c.args.factor = grind (arith, ints, c.if-factor-gt0.true, to_z-of_z w64 c.args.factor factor) in
    subst (AreEnds c.args.factor c.args.domain) (ap₂ (λ (x y : ℤ). (x, y)) (sym (to_z-of_z w64 c.args.domain.lo lo)) (sym (to_z-of_z w64 c.args.domain.hi hi))) (AreEnds-rising c.args.factor c.args.domain up)

pub returns-else-factor-gt0 : goal.returns-else-factor-gt0
returns-else-factor-gt0 c =
    let factor : FitsSigned w64 c.args.factor = search rules in
    let lo : FitsSigned w64 c.args.domain.lo = search rules in
    let hi : FitsSigned w64 c.args.domain.hi = search rules in
    let down : c.args.factor ≤ℤ pos 0 = grind (arith, ints, c.if-factor-gt0.false, to_z-of_z w64 c.args.factor factor) in
    subst (AreEnds c.args.factor c.args.domain) (ap₂ (λ (x y : ℤ). (x, y)) (sym (to_z-of_z w64 c.args.domain.hi hi)) (sym (to_z-of_z w64 c.args.domain.lo lo))) (AreEnds-falling c.args.factor c.args.domain down)
