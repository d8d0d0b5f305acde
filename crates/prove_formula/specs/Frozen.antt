-- A formula in which the monitored variables but one are frozen: it reads their old values alone.
use Rattle.std.specs.Prelude.{◌≡◌, ℕ, ◌/◌, ◌%◌, ◌-◌, Bool, not, ◌&&◌, ◌==◌, if◌then◌else◌, map}
use Rattle.scr_spec.specs.Data.{Data}
use Rattle.scr_spec.specs.Meaning.{Codes}
use Rattle.scr_spec.specs.Relations.{is_monitored, KeepsOthers}
use Rattle.dd_formula.specs.declared.formula.Term.{Term}
use Rattle.dd_formula.specs.declared.formula.Linear.{Linear}
use Rattle.dd_formula.specs.declared.formula.Formula.{Formula, fold-Formula}
use Rattle.dd_formula.specs.declared.formula.Formula.TheVariants as made
use Rattle.dd_formula.specs.declared.formula.Formula.TheOpen.{Formula-F, True, False, Atom, Not, And, Or}
use Rattle.dd_formula.specs.Truth.{holds_at}
use Rattle.prove_formula.specs.Levels.{valuation_of}
use Rattle.prove_formula.specs.Measure.{is_atom_within}
use Rattle.dd_formula.specs.Measure.{all_atoms}

-- the new level of a monitored variable other than x
abbrev pub is_frozen : Data → ℕ → ℕ → Bool
is_frozen spec x level = (level % 2 == 1) && not (level / 2 == x) && is_monitored spec (level / 2)

-- such a level is replaced by the old one
abbrev pub frozen_level : Data → ℕ → ℕ → ℕ
frozen_level spec x level = if is_frozen spec x level then level - 1 else level

abbrev pub frozen_term : Data → ℕ → Term → Term
frozen_term spec x t = record { factor = t.factor; level = frozen_level spec x t.level }

abbrev pub frozen_atom : Data → ℕ → Linear → Linear
frozen_atom spec x a = record { terms = map (frozen_term spec x) a.terms; constant = a.constant; op = a.op }

-- from the formulas of its members
abbrev pub frozen_step : Data → ℕ → Formula-F Formula → Formula
frozen_step spec x True = made.True
frozen_step spec x False = made.False
frozen_step spec x (Atom a) = made.Atom (frozen_atom spec x a)
frozen_step spec x (Not f) = made.Not f
frozen_step spec x (And fs) = made.And fs
frozen_step spec x (Or fs) = made.Or fs

-- the formula with these levels replaced in each atom
abbrev pub frozen : Data → ℕ → Formula → Formula
frozen spec x f = fold-Formula Formula (frozen_step spec x) f

-- the same truth at each pair of states at which the monitored variables other than x keep their codes
abbrev pub HasTruthWhereKept : Data → ℕ → Formula → Formula → Type 0
HasTruthWhereKept spec x f g = (s t : Codes) → KeepsOthers spec x s t → holds_at (valuation_of s t) g ≡ holds_at (valuation_of s t) f

-- the same bounds on levels and measures
abbrev pub HasBoundsOf : Data → Formula → Formula → Type 0
HasBoundsOf spec f g = (n : ℕ) → all_atoms (is_atom_within spec n) g ≡ all_atoms (is_atom_within spec n) f
