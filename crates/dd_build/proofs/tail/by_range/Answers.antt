use Rattle.std.proofs.Common.{rules, ◌≡◌, ◌+◌, ◌<◌, ◌^◌, ℤ, pos, ◌+ℤ◌, ◌≤ℤ◌, unsigned_abs, true, FitsSigned, w64, to_z, of_z, refl, sym, ap, ap₂, subst, ◌∙◌, arith}
use Rattle.std.proofs.lemmas.Int.{ints, to_z-of_z}
use Rattle.dd_formula.specs.declared.formula.Op.TheVariants.{Le}
use Rattle.dd_build.specs.declared.tail.Settled.{Settled}
use Rattle.dd_build.specs.Tails.{IsSettled}
use Rattle.dd_build.proofs.FactorLaws.{abs_sum, fits_small}
use Rattle.dd_build.proofs.Subtotals.{sum_is}
use Rattle.dd_build.proofs.Tails.{IsSettled-at_most}
use Rattle.dd_build.proofs.tail.by_range.Goals as goal

pub returns-in-Le : goal.returns-in-Le
returns-in-Le c =
    let sum = c.args.sum in
    let greatest = c.args.tail.greatest in
    let high = c.requires.high in
    let both = abs_sum sum greatest in
    let fits : FitsSigned w64 sum = search rules in
    let fits_greatest : FitsSigned w64 greatest = fits_small greatest (unsigned_abs greatest) (omega arith) (omega (arith, high)) in
    let fits_sum : FitsSigned w64 (sum +ℤ greatest) = fits_small (sum +ℤ greatest) (unsigned_abs sum + unsigned_abs greatest) both high in
    let is : to_z w64 (of_z w64 (to_z w64 (of_z w64 sum) +ℤ to_z w64 (of_z w64 greatest))) ≡ sum +ℤ greatest = ap (λ z. to_z w64 (of_z w64 z)) (sum_is sum greatest greatest fits fits_greatest refl) ∙ to_z-of_z w64 (sum +ℤ greatest) fits_sum in
    let size : c.unsigned_abs-size.result ≡ unsigned_abs (sum +ℤ greatest) = c.unsigned_abs-size.ensures.value ∙ ap unsigned_abs is in
    let test = c.if-greatest-le0.true in
    let down : (sum +ℤ greatest) ≤ℤ pos 0 = grind (arith, ints, is, test) in
    let settled : Settled = record { value = true; room = record { below = 2 ^ 62; above = c.unsigned_abs-size.result } } in
    subst (λ op. IsSettled op c.args.tail sum settled) (sym c.in-Le.is) (IsSettled-at_most c.args.tail sum settled down refl (omega arith) size (omega (arith, size, both, high)))
