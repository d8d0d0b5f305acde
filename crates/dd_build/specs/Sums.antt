-- The sum of an atom with one term for each level, in the order of the levels, and what is left of it.
use Rattle.std.specs.Prelude.{◌≡◌, ◌≢◌, ℕ, zero, suc, ◌+◌, ◌<◌, ◌≤◌, ◌^◌, ℤ, pos, ◌+ℤ◌, ◌*ℤ◌, unsigned_abs, ◌==◌, if◌then◌else◌, List, [], ◌∷◌, ◌++◌, length, drop, slice_index_or, sum_by}
use Rattle.std.specs.Ordering.{int_eq}
use Rattle.dd_formula.specs.declared.domain.Domain.{Domain}
use Rattle.dd_formula.specs.declared.formula.Op.{Op}
use Rattle.dd_formula.specs.declared.formula.Term.{Term}
use Rattle.dd_formula.specs.Truth.{terms_value, meets_zero}
use Rattle.dd_tree.specs.Tree.{Tree}
use Rattle.dd_tree.specs.Function.{tree_of}
use Rattle.dd_store.specs.Domains.{sizes_of, code_at}
use Rattle.dd_build.specs.declared.interval.Subtotal.{Subtotal}
use Rattle.dd_build.specs.Atoms.{codes_at, bound_of, term_measure}

-- the sum of the factors of a level's terms
abbrev pub factor_of : ℕ → List Term → ℤ
factor_of level [] = pos 0
factor_of level (t ∷ ts) = (if t.level == level then t.factor else pos 0) +ℤ factor_of level ts

-- the sum of their absolute factors
abbrev pub factors_bound : ℕ → List Term → ℕ
factors_bound level [] = 0
factors_bound level (t ∷ ts) = (if t.level == level then unsigned_abs t.factor else 0) + factors_bound level ts

-- the factor of a level, which is 0 where the level has no code but 0
abbrev pub own_factor : List Domain → List Term → ℕ → ℤ
own_factor ds ts level = if bound_of ds level == 0 then pos 0 else factor_of level ts

-- a term with a factor, if it is not 0
abbrev pub term_with : ℤ → ℕ → List Term
term_with factor level = if int_eq factor (pos 0) then [] else (record { factor = factor; level = level } ∷ [])

-- a term for the level, if its factor is not 0
abbrev pub term_at : List Domain → List Term → ℕ → List Term
term_at ds ts level = term_with (own_factor ds ts level) level

-- a term for each of n levels, from one on
abbrev pub ordered_from : List Domain → List Term → ℕ → ℕ → List Term
ordered_from ds ts level zero = []
ordered_from ds ts level (suc n) = term_at ds ts level ++ ordered_from ds ts (level + 1) n

-- the term at a place
abbrev pub term_of : List Term → ℕ → Term
term_of ts place = slice_index_or ts place (record { factor = pos 0; level = 0 })

-- no term names a level from one on and before the next
pub record IsNextLevel (level : ℕ) (ts : List Term) (next : ℕ) : Type 0 where
  pub none : (i : ℕ) → i < length ts → level ≤ (term_of ts i).level → next ≤ (term_of ts i).level

-- levels rise from k on and are below n, and no factor is 0
abbrev pub AreOrderedTerms : ℕ → ℕ → List Term → Type 0
AreOrderedTerms k n [] = Unit {0}
AreOrderedTerms k n (t ∷ ts) = (k ≤ t.level) × (t.level < n) × (t.factor ≢ pos 0) × AreOrderedTerms (t.level + 1) n ts

-- the tree of what is left of a sum once it has come to s
abbrev pub rest_of : List Domain → Op → List Term → ℤ → Tree
rest_of ds op ts s = tree_of (sizes_of ds) (λ v. meets_zero op (s +ℤ terms_value (codes_at ds v) ts))

-- that of a subtotal
abbrev pub rest_at : List Domain → Op → List Term → Subtotal → Tree
rest_at ds op ts from = rest_of ds op (drop from.place ts) from.sum

-- a sum with the term at a position of its level
abbrev pub sum_at : List Domain → Term → ℤ → ℕ → ℤ
sum_at ds t s position = s +ℤ t.factor *ℤ code_at ds t.level position

-- the place is one of the terms or behind them, and with what is left the sum stays below 2 to the power of 62
pub record IsSubtotal (ds : List Domain) (ts : List Term) (from : Subtotal) : Type 0 where
  pub within : from.place ≤ length ts
  pub small : unsigned_abs from.sum + sum_by (term_measure ds) (drop from.place ts) < 2 ^ 62

-- the subtotal with the term at a position of its level
pub record IsNextSubtotal (ds : List Domain) (ts : List Term) (from : Subtotal) (position : ℕ) (next : Subtotal) : Type 0 where
  pub place : next.place ≡ from.place + 1
  pub sum : next.sum ≡ sum_at ds (term_of ts from.place) from.sum position
  pub subtotal : IsSubtotal ds ts next
