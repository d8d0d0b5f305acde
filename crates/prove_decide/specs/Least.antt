-- The least valuation at which a formula is true. A valuation gives each level one of its codes.
use Rattle.std.specs.Prelude.{ℤ, Bool, List, IsTrue, IsFalse}
use Rattle.dd_formula.specs.declared.domain.Domain.{Domain}
use Rattle.dd_formula.specs.declared.formula.Formula.{Formula}
use Rattle.dd_formula.specs.Truth.{holds_at}
use Rattle.dd_witness.specs.Least.{code_in, IsValuation, ComesBefore}

-- the formula is true at the valuation
abbrev pub is_true_at : List ℤ → Formula → Bool
is_true_at v f = holds_at (code_in v) f

-- it is true at no valuation
abbrev pub IsUnsatisfiable : List Domain → Formula → Type 0
IsUnsatisfiable ds f = (v : List ℤ) → IsValuation ds v → IsFalse (is_true_at v f)

-- it is true at v, and at no valuation that comes before v in lexicographic order
pub record IsLeastTrue (ds : List Domain) (f : Formula) (v : List ℤ) : Type 0 where
  pub valuation : IsValuation ds v
  pub holds : IsTrue (is_true_at v f)
  pub least : (w : List ℤ) → IsValuation ds w → IsTrue (is_true_at w f) → ComesBefore 0 w v → ⊥
