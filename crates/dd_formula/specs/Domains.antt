-- The codes of a level.
use Rattle.std.specs.Prelude.{ℕ, max, ℤ, int_le, unsigned_abs, Bool, ◌&&◌}
use Rattle.dd_formula.specs.declared.domain.Domain.{Domain}

-- whether the code is one of the domain
abbrev pub is_within : Domain → ℤ → Bool
is_within d code = int_le d.lo code && int_le code d.hi

-- the greatest absolute value in a domain
abbrev pub domain_bound : Domain → ℕ
domain_bound d = max (unsigned_abs d.lo) (unsigned_abs d.hi)
