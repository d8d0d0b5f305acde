-- Levels and formulas of the worked examples.
use Rattle.std.specs.Prelude.{ℕ, ℤ, pos, negsuc, List, [], ◌∷◌, replicate}
use Rattle.dd_formula.specs.declared.domain.Domain.{Domain}
use Rattle.dd_formula.specs.declared.formula.Op.TheVariants.{Eq}
use Rattle.dd_formula.specs.declared.formula.Linear.{Linear}
use Rattle.dd_formula.specs.declared.formula.Formula.{Formula}
use Rattle.dd_formula.specs.declared.formula.Formula.TheVariants.{Atom, And}

-- so many levels with the codes from 0 to the greatest
abbrev pub levels_to : ℕ → ℤ → List Domain
levels_to count greatest = replicate count (record { lo = pos 0; hi = greatest })

-- the code of a level less 1 is 0
abbrev pub one_at : ℕ → Linear
one_at level = record { terms = record { factor = pos 1; level = level } ∷ []; constant = negsuc 0; op = Eq }

-- a level has the code 1
abbrev pub is_one : ℕ → Formula
is_one level = Atom (one_at level)

-- two levels have it
abbrev pub are_one : ℕ → ℕ → Formula
are_one a b = And (is_one a ∷ is_one b ∷ [])
