-- The size of a sum.
use Rattle.std.proofs.Common.{ℤ, ◌+ℤ◌, ◌+◌, ◌≤◌, arith}
use Rattle.std.specs.Prelude.{unsigned_abs}
use Rattle.std.proofs.lemmas.Int.{ints}

-- a sum is at most as great as its parts
pub sum_size : (a b : ℤ) → unsigned_abs (a +ℤ b) ≤ unsigned_abs a + unsigned_abs b
sum_size a b = grind (arith, ints)
