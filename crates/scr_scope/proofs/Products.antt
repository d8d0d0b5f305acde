-- Products of small numbers.
use Rattle.std.proofs.Common.{◌*◌, ◌≤◌, ℤ, ◌*ℤ◌, arith, FitsSigned, w64}
use Rattle.std.specs.Prelude.{unsigned_abs}
use Rattle.std.proofs.lemmas.Int.{to_z-of_z, fits_signed_from_abs, unsigned_abs-mul}
use Rattle.scr_spec.proofs.Lookup.{all_get}
use Rattle.std.proofs.Math.Nat.{mul-le-mul_left}

pub product_small : (a b : ℤ) → unsigned_abs a ≤ 1000000 → unsigned_abs b ≤ 4294967296 → unsigned_abs (a *ℤ b) ≤ 4294967296000000
product_small a b h k = let m = unsigned_abs-mul a b in let l : unsigned_abs a * unsigned_abs b ≤ unsigned_abs a * 4294967296 = mul-le-mul_left (unsigned_abs a) k in omega arith

pub product_fits : (a b : ℤ) → unsigned_abs a ≤ 1000000 → unsigned_abs b ≤ 4294967296 → FitsSigned w64 (a *ℤ b)
product_fits a b h k = let m = product_small a b h k in fits_signed_from_abs _ _ (omega arith)

pub ruleset product_bounds = (product_fits, product_small, to_z-of_z)

pub ruleset constant_bounds = (all_get, to_z-of_z)
