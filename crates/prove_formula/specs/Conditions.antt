-- The formula of a condition, at the old or the new state or between both.
use Rattle.std.specs.Prelude.{◌≡◌, ℕ, ℤ, pos, neg_ℤ, Bool, true, false, [], ◌∷◌}
use Rattle.base.specs.declared.relation.Relation.{Relation}
use Rattle.base.specs.declared.relation.Relation.TheVariants.{Equal, Differ, Less, AtMost, Greater, AtLeast}
use Rattle.scr_spec.specs.Data.{Data}
use Rattle.scr_spec.specs.declared.cond.Expr.{Expr}
use Rattle.scr_spec.specs.declared.cond.Cond.{Cond, fold-Cond}
use Rattle.scr_spec.specs.declared.cond.Cond.TheOpen as cond
use Rattle.scr_spec.specs.Meaning.{Codes, is_true}
use Rattle.dd_formula.specs.declared.formula.Op.TheVariants.{Eq, Le}
use Rattle.dd_formula.specs.declared.formula.Formula.{Formula}
use Rattle.dd_formula.specs.declared.formula.Formula.TheVariants.{True, False, Atom, Not}
use Rattle.dd_formula.specs.Truth.{holds_at}
use Rattle.prove_formula.specs.Levels.{level_of, valuation_of, at_of}
use Rattle.prove_formula.specs.declared.side.Reading.{Reading}
use Rattle.prove_formula.specs.declared.side.Reading.TheVariants.{In, Across}
use Rattle.prove_formula.specs.Sides.{plain_in_new, difference, one_more}
use Rattle.prove_formula.specs.Between.{is_true_between}
use Rattle.dd_formula.specs.Joined.{all_of, any_of}

-- the variable has the code
abbrev pub has_code : Bool → ℕ → ℤ → Formula
has_code new v code = Atom (record {
  terms = record { factor = pos 1; level = level_of new v } ∷ [];
  constant = neg_ℤ code;
  op = Eq;
})

-- whole numbers: one is less than another where it is, with 1 added, at most that
abbrev pub compared : Data → Reading → Expr → Relation → Expr → Formula
compared spec reading left Equal right = Atom (difference spec reading left right Eq)
compared spec reading left Differ right = Not (Atom (difference spec reading left right Eq))
compared spec reading left Less right = Atom (one_more (difference spec reading left right Le))
compared spec reading left AtMost right = Atom (difference spec reading left right Le)
compared spec reading left Greater right = Atom (one_more (difference spec reading right left Le))
compared spec reading left AtLeast right = Atom (difference spec reading right left Le)

-- TRUE and FALSE
abbrev pub truth_formula : Bool → Formula
truth_formula true = True
truth_formula false = False

-- from the formulas of its parts; a name alone is unprimed
abbrev pub condition_step : Data → Reading → cond.Cond-F Formula → Formula
condition_step spec reading (cond.Truth b) = truth_formula b
condition_step spec reading (cond.Holds v) = has_code (plain_in_new reading) v (pos 1)
condition_step spec reading (cond.Compare left relation right) = compared spec reading left relation right
condition_step spec reading (cond.Not f) = Not f
condition_step spec reading (cond.And fs) = all_of fs
condition_step spec reading (cond.Or fs) = any_of fs

-- the formula of a condition whose names are read so
abbrev pub formula_read : Data → Reading → Cond → Formula
formula_read spec reading c = fold-Cond Formula (condition_step spec reading) c

-- in one state
abbrev pub condition_formula : Data → Bool → Cond → Formula
condition_formula spec new c = formula_read spec (In new) c

-- between two
abbrev pub pair_formula : Data → Cond → Formula
pair_formula spec c = formula_read spec Across c

-- at the valuation of two states the formula is true exactly where the condition is, at the one that is read
abbrev pub HasTruthOf : Data → Bool → Cond → Formula → Type 0
HasTruthOf spec new c f = (s t : Codes) → holds_at (valuation_of s t) f ≡ is_true spec (at_of new s t) c

-- exactly where it is true between the states
abbrev pub HasTruthBetween : Data → Cond → Formula → Type 0
HasTruthBetween spec c f = (s t : Codes) → holds_at (valuation_of s t) f ≡ is_true_between spec s t c
