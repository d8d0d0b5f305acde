-- What the last terms of a sum can add to it.
use Rattle.std.specs.Prelude.{◌≡◌, ℕ, ◌+◌, ◌-◌, ◌*◌, ◌≤◌, ◌^◌, ℤ, pos, ◌+ℤ◌, ◌*ℤ◌, ◌≤ℤ◌, unsigned_abs, Bool, List, length, drop, slice_index_or, sum_by}
use Rattle.std.specs.Int.{◌∣◌}
use Rattle.dd_formula.specs.Domains.{domain_bound}
use Rattle.dd_formula.specs.declared.domain.Domain.{Domain}
use Rattle.dd_formula.specs.declared.formula.Op.{Op}
use Rattle.dd_formula.specs.declared.formula.Term.{Term}
use Rattle.dd_formula.specs.Truth.{terms_value, meets_zero}
use Rattle.dd_tree.specs.Ordered.{IsTyped}
use Rattle.dd_store.specs.Domains.{sizes_of}
use Rattle.dd_build.specs.declared.tail.Tail.{Tail}
use Rattle.dd_build.specs.declared.tail.Settled.{Settled}
use Rattle.dd_build.specs.Atoms.{codes_at, term_measure}
use Rattle.dd_build.specs.Intervals.{IsNear}

-- a number in the range that is a multiple of the divisor
pub record IsAdded (tail : Tail) (z : ℤ) : Type 0 where
  pub least : tail.least ≤ℤ z
  pub greatest : z ≤ℤ tail.greatest
  pub multiple : tail.divisor ∣ unsigned_abs z

-- the terms add such numbers alone, and neither end of the range is beyond their measure
pub record IsTail (ds : List Domain) (ts : List Term) (tail : Tail) : Type 0 where
  pub adds : (v : List ℕ) → IsTyped (sizes_of ds) v → IsAdded tail (terms_value (codes_at ds v) ts)
  pub low : unsigned_abs tail.least ≤ sum_by (term_measure ds) ts
  pub high : unsigned_abs tail.greatest ≤ sum_by (term_measure ds) ts

-- the entry of a number of terms
abbrev pub tail_of : List Tail → ℕ → Tail
tail_of tails k = slice_index_or tails k (record { least = pos 0; greatest = pos 0; divisor = 0 })

-- an entry for each number of last terms, up to n of them
pub record AreTails (ds : List Domain) (ts : List Term) (n : ℕ) (tails : List Tail) : Type 0 where
  pub many : length tails ≡ n + 1
  pub each : (k : ℕ) → k ≤ n → IsTail ds (drop (length ts - k) ts) (tail_of tails k)

-- with whatever is added each sum that is near compares with 0 as the value says
pub record IsSettled (op : Op) (tail : Tail) (sum : ℤ) (settled : Settled) : Type 0 where
  pub below : settled.room.below ≤ 2 ^ 62
  pub above : settled.room.above ≤ 2 ^ 62
  pub same : (s z : ℤ) → IsNear sum settled.room s → IsAdded tail z → meets_zero op (s +ℤ z) ≡ settled.value

-- two codes of a domain with the least and the greatest product with a factor
pub record AreEnds (factor : ℤ) (domain : Domain) (ends : ℤ × ℤ) : Type 0 where
  pub first : unsigned_abs ends.0 ≤ domain_bound domain
  pub last : unsigned_abs ends.1 ≤ domain_bound domain
  pub low : (code : ℤ) → domain.lo ≤ℤ code → code ≤ℤ domain.hi → (factor *ℤ ends.0) ≤ℤ (factor *ℤ code)
  pub high : (code : ℤ) → domain.lo ≤ℤ code → code ≤ℤ domain.hi → (factor *ℤ code) ≤ℤ (factor *ℤ ends.1)

-- the range and the divisor with one term more
pub record IsWithTerm (tail : Tail) (term : Term) (domain : Domain) (more : Tail) : Type 0 where
  pub adds : (z code : ℤ) → IsAdded tail z → domain.lo ≤ℤ code → code ≤ℤ domain.hi → IsAdded more (term.factor *ℤ code +ℤ z)
  pub least : unsigned_abs more.least ≤ unsigned_abs tail.least + unsigned_abs term.factor * domain_bound domain
  pub greatest : unsigned_abs more.greatest ≤ unsigned_abs tail.greatest + unsigned_abs term.factor * domain_bound domain
