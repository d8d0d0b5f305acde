-- The codes of a level.
use Rattle.std.specs.Prelude.{ℕ, ℤ, pos, ◌+◌, ◌<◌, ◌+ℤ◌, ◌-ℤ◌, ◌≤ℤ◌, unsigned_abs, List, map, slice_index_or}
use Rattle.dd_formula.specs.declared.domain.Domain.{Domain}

-- how many codes a level has
abbrev pub size_of : Domain → ℕ
size_of d = unsigned_abs (d.hi -ℤ d.lo) + 1

-- how many codes each level has
abbrev pub sizes_of : List Domain → List ℕ
sizes_of ds = map size_of ds

-- the least code of a level
abbrev pub low_of : List Domain → ℕ → ℤ
low_of ds l = slice_index_or (map (λ d. d.lo) ds) l (pos 0)

-- the code at a position of a level
abbrev pub code_at : List Domain → ℕ → ℕ → ℤ
code_at ds l p = low_of ds l +ℤ pos p

-- a level has 1 to 8,192 codes
pub record IsDomain (d : Domain) : Type 0 where
  pub some : d.lo ≤ℤ d.hi
  pub few : unsigned_abs (d.hi -ℤ d.lo) < 8192
