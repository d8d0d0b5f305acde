-- The bounds of codes and products.
use Rattle.std.proofs.Common.{◌≡◌, ℕ, ◌*◌, ◌<◌, ◌≤◌, ℤ, ◌*ℤ◌, length, arith, FitsSigned, w64}
use Rattle.std.specs.Prelude.{unsigned_abs}
use Rattle.std.proofs.lemmas.Int.{ints, to_z-of_z, fits_signed_from_abs, unsigned_abs-mul}
use Rattle.std.proofs.Math.Nat.{mul-le-mul_left}
use Rattle.scr_spec.specs.Data.{Data}
use Rattle.dd_formula.specs.declared.domain.Domain.{Domain}
use Rattle.scr_spec.specs.Meaning.{Codes, code_of}
use Rattle.scr_spec.specs.Domains.{IsWithin, IsTyped, domain_of}
use Rattle.dd_formula.specs.Domains.{domain_bound}
use Rattle.scr_spec.specs.Over.{variable_bound}
use Rattle.scr_spec.proofs.Sizes.{code_bounded}

-- a code of a typed state is within the bound of its variable
pub variable_bounded : (spec : Data) (codes : Codes) (v : ℕ) → IsTyped spec codes → v < length spec.variables → unsigned_abs (code_of codes v) ≤ variable_bound spec v
variable_bounded spec codes v h k = code_bounded (domain_of spec v) (code_of codes v) (h.within v k)

pub ruleset code_bounds = (variable_bounded, to_z-of_z)

-- a product within the bound of a side fits its type
pub product_fits : (a b : ℤ) → unsigned_abs a * unsigned_abs b ≤ 2000000000 → FitsSigned w64 (a *ℤ b)
product_fits a b k = let p = unsigned_abs-mul a b in fits_signed_from_abs _ _ (omega arith)

pub ruleset product_bounds = (product_fits, unsigned_abs-mul, to_z-of_z)

-- a smaller second factor keeps a product within a bound
pub product_within : (a b : ℤ) (n m : ℕ) → unsigned_abs b ≤ n → unsigned_abs a * n ≤ m → unsigned_abs a * unsigned_abs b ≤ m
product_within a b n m h k = omega (arith, mul-le-mul_left (unsigned_abs a) h)

-- a product is at most that with a greater second factor
pub product_most : (r a b n : ℕ) → r ≡ a * b → b ≤ n → r ≤ a * n
product_most r a b n e h = omega (arith, mul-le-mul_left a h)

pub ruleset item_bounds = (product_most, product_within, to_z-of_z)
