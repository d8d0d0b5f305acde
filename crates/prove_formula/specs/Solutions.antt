-- Pairs of states at which a formula is true.
use Rattle.std.specs.Prelude.{IsTrue}
use Rattle.dd_formula.specs.Truth.{holds_at}
use Rattle.dd_formula.specs.declared.formula.Formula.{Formula}
use Rattle.scr_spec.specs.Data.{Data}
use Rattle.scr_spec.specs.Meaning.{Codes}
use Rattle.scr_spec.specs.Domains.{IsTyped}
use Rattle.prove_formula.specs.Levels.{valuation_of}

-- the formula is true at a pair of typed states, which give each level a code of its variable
pub record IsSolution (spec : Data) (f : Formula) (s t : Codes) : Type 0 where
  pub old : IsTyped spec s
  pub new : IsTyped spec t
  pub truth : IsTrue (holds_at (valuation_of s t) f)

abbrev pub HasNoSolution : Data → Formula → Type 0
HasNoSolution spec f = (s t : Codes) → IsSolution spec f s t → ⊥
