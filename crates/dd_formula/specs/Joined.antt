-- Formulas joined by and, or. One member is itself.
use Rattle.std.specs.Prelude.{List, [], ◌∷◌}
use Rattle.dd_formula.specs.declared.formula.Formula.{Formula}
use Rattle.dd_formula.specs.declared.formula.Formula.TheVariants.{True, False, And, Or}

-- no member is True
abbrev pub all_of : List Formula → Formula
all_of [] = True
all_of (f ∷ []) = f
all_of (f ∷ g ∷ fs) = And (f ∷ g ∷ fs)

-- no member is False
abbrev pub any_of : List Formula → Formula
any_of [] = False
any_of (f ∷ []) = f
any_of (f ∷ g ∷ fs) = Or (f ∷ g ∷ fs)
