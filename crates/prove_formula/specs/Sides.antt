-- Sides as terms and a constant.
use Rattle.std.specs.Prelude.{ℤ, pos, ◌+ℤ◌, ◌-ℤ◌, ◌*ℤ◌, neg_ℤ, Bool, true, false, Option, Some, None, List, ◌++◌, map, fold}
use Rattle.std.specs.List.{filter_map}
use Rattle.scr_spec.specs.Data.{Data}
use Rattle.scr_spec.specs.declared.cond.Operand.{Operand}
use Rattle.scr_spec.specs.declared.cond.Operand.TheVariants.{One, Truth as Flag, Constant, Label, Variable, Primed}
use Rattle.scr_spec.specs.declared.cond.Item.{Item}
use Rattle.scr_spec.specs.declared.cond.Expr.{Expr}
use Rattle.scr_spec.specs.Meaning.{truth_code, constant_value}
use Rattle.dd_formula.specs.declared.formula.Op.{Op}
use Rattle.dd_formula.specs.declared.formula.Term.{Term}
use Rattle.dd_formula.specs.declared.formula.Linear.{Linear}
use Rattle.prove_formula.specs.declared.side.Reading.{Reading}
use Rattle.prove_formula.specs.declared.side.Reading.TheVariants.{In, Across}
use Rattle.prove_formula.specs.Levels.{level_of}

-- unprimed names are read in the new state
abbrev pub plain_in_new : Reading → Bool
plain_in_new (In new) = new
plain_in_new Across = false

-- primed names are read in the new state
abbrev pub primed_in_new : Reading → Bool
primed_in_new (In new) = new
primed_in_new Across = true

-- the term of an item with a variable
abbrev pub term_of : Reading → Item → Operand → Option Term
term_of reading item One = None
term_of reading item (Flag b) = None
term_of reading item (Constant k) = None
term_of reading item (Label owner code) = None
term_of reading item (Variable v) = Some (record { factor = item.factor; level = level_of (plain_in_new reading) v })
term_of reading item (Primed v) = Some (record { factor = item.factor; level = level_of (primed_in_new reading) v })

-- the terms of the items with variables, in order
abbrev pub side_terms : Reading → Expr → List Term
side_terms reading e = filter_map (λ item. term_of reading item item.operand) e.items

-- a sum is taken away by adding its terms with negated factors
abbrev pub negated : Term → Term
negated t = record { factor = neg_ℤ t.factor; level = t.level }

-- the value of an operand without a variable
abbrev pub fixed_value : Data → Operand → ℤ
fixed_value spec One = pos 1
fixed_value spec (Flag b) = truth_code b
fixed_value spec (Constant k) = constant_value spec k
fixed_value spec (Label owner code) = code
fixed_value spec (Variable v) = pos 0
fixed_value spec (Primed v) = pos 0

-- what the items without variables add
abbrev pub side_constant : Data → Expr → ℤ
side_constant spec e = fold (λ sum item. sum +ℤ item.factor *ℤ fixed_value spec item.operand) (pos 0) e.items

-- the left side less the right, against 0
abbrev pub difference : Data → Reading → Expr → Expr → Op → Linear
difference spec reading left right op = record {
  terms = side_terms reading left ++ map negated (side_terms reading right);
  constant = side_constant spec left -ℤ side_constant spec right;
  op = op;
}

-- with 1 added
abbrev pub one_more : Linear → Linear
one_more a = record { terms = a.terms; constant = a.constant +ℤ pos 1; op = a.op }
