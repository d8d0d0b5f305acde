-- The decimal number that digits spell.
use Rattle.std.specs.Prelude.{ℕ, ◌+◌, ◌-◌, ◌*◌, min, fold, List}
use Rattle.base.specs.declared.limits.TheConstants.{NUMBER_LIMIT}

-- the decimal number that these digits spell
abbrev pub decimal_of : List ℕ → ℕ
decimal_of digits = fold (λ n b. 10 * n + (b - 48)) 0 digits

-- the same; any number above the greatest of a line counts as the next one
abbrev pub number_of : List ℕ → ℕ
number_of digits = min (decimal_of digits) (NUMBER_LIMIT + 1)
