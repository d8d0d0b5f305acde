-- A test of each atom of a formula, and how large the sum of an atom can be.
use Rattle.std.specs.Prelude.{ℕ, ◌+◌, ◌*◌, unsigned_abs, Bool, true, sum_by}
use Rattle.std.specs.List.{list_all}
use Rattle.dd_formula.specs.declared.formula.Term.{Term}
use Rattle.dd_formula.specs.declared.formula.Linear.{Linear}
use Rattle.dd_formula.specs.declared.formula.Formula.{Formula, fold-Formula}
use Rattle.dd_formula.specs.declared.formula.Formula.TheOpen.{Formula-F, True, False, Atom, Not, And, Or}

-- the absolute factor times the greatest absolute code of the level
abbrev pub term_measure : (ℕ → ℕ) → Term → ℕ
term_measure bound term = unsigned_abs term.factor * bound term.level

-- the absolute constant and the measures of the terms
abbrev pub atom_measure : (ℕ → ℕ) → Linear → ℕ
atom_measure bound a = unsigned_abs a.constant + sum_by (term_measure bound) a.terms

-- from the tests of the members
abbrev pub atoms_step : (Linear → Bool) → Formula-F Bool → Bool
atoms_step test True = true
atoms_step test False = true
atoms_step test (Atom a) = test a
atoms_step test (Not t) = t
atoms_step test (And ts) = list_all (λ t. t) ts
atoms_step test (Or ts) = list_all (λ t. t) ts

-- the test passes at each atom of the formula
abbrev pub all_atoms : (Linear → Bool) → Formula → Bool
all_atoms test f = fold-Formula Bool (atoms_step test) f
