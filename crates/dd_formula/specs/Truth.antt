-- When a formula is true.
use Rattle.std.specs.Prelude.{ℕ, ℤ, pos, ◌+ℤ◌, ◌*ℤ◌, Bool, true, false, not, List, fold, int_le}
use Rattle.std.specs.List.{list_all, list_any}
use Rattle.std.specs.Ordering.{int_eq}
use Rattle.dd_formula.specs.declared.formula.Op.{Op}
use Rattle.dd_formula.specs.declared.formula.Op.TheVariants.{Eq, Le}
use Rattle.dd_formula.specs.declared.formula.Term.{Term}
use Rattle.dd_formula.specs.declared.formula.Linear.{Linear}
use Rattle.dd_formula.specs.declared.formula.Formula.{Formula, fold-Formula}
use Rattle.dd_formula.specs.declared.formula.Formula.TheOpen.{Formula-F, True, False, Atom, Not, And, Or}

-- a code for each level
abbrev pub Valuation : Type 0
Valuation = ℕ → ℤ

-- the sum of factor times code
abbrev pub terms_value : Valuation → List Term → ℤ
terms_value val terms = fold (λ sum term. sum +ℤ term.factor *ℤ val term.level) (pos 0) terms

-- how a sum compares with 0
abbrev pub meets_zero : Op → ℤ → Bool
meets_zero Eq z = int_eq z (pos 0)
meets_zero Le z = int_le z (pos 0)

-- an atom holds where the sum of its terms and its constant is 0, or at most 0
abbrev pub atom_holds : Valuation → Linear → Bool
atom_holds val a = meets_zero a.op (terms_value val a.terms +ℤ a.constant)

-- the truth of a formula from the truths of its members
abbrev pub holds_step : Valuation → Formula-F Bool → Bool
holds_step val True = true
holds_step val False = false
holds_step val (Atom a) = atom_holds val a
holds_step val (Not t) = not t
holds_step val (And ts) = list_all (λ t. t) ts
holds_step val (Or ts) = list_any (λ t. t) ts

-- the truth of a formula at a valuation
abbrev pub holds_at : Valuation → Formula → Bool
holds_at val f = fold-Formula Bool (holds_step val) f
