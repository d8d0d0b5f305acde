-- The sides and conditions that are over a specification, and the bound of a side.
use Rattle.std.specs.Prelude.{ℕ, ◌*◌, ℤ, pos, unsigned_abs, int_lt, int_le, Bool, true, ◌&&◌, nat_lt, nat_le, List, [], length, sum_by, slice_get}
use Rattle.std.specs.Option.{option_map_or}
use Rattle.std.specs.List.{list_all}
use Rattle.base.specs.declared.limits.TheConstants.{NUMBER_LIMIT}
use Rattle.scr_spec.specs.Data.{Data}
use Rattle.scr_spec.specs.declared.limits.TheConstants.{SIDE_LIMIT}
use Rattle.scr_spec.specs.declared.cond.Owner.{Owner}
use Rattle.scr_spec.specs.declared.cond.Owner.TheVariants.{Named, Class}
use Rattle.scr_spec.specs.declared.cond.Operand.{Operand}
use Rattle.scr_spec.specs.declared.cond.Operand.TheVariants.{One, Truth as Flag, Constant, Label, Variable as Read, Primed}
use Rattle.scr_spec.specs.declared.cond.Item.{Item}
use Rattle.scr_spec.specs.declared.cond.Expr.{Expr}
use Rattle.scr_spec.specs.declared.cond.Cond.{Cond, fold-Cond}
use Rattle.scr_spec.specs.declared.cond.Cond.TheOpen.{Cond-F, Truth, Holds, Compare, Not, And, Or}
use Rattle.scr_spec.specs.Types.{shape_labels, kind_modes}
use Rattle.dd_formula.specs.Domains.{domain_bound}
use Rattle.scr_spec.specs.Domains.{domain_of}
use Rattle.scr_spec.specs.Meaning.{constant_value}

-- the greatest absolute code of a variable
abbrev pub variable_bound : Data → ℕ → ℕ
variable_bound spec v = domain_bound (domain_of spec v)

-- the greatest absolute value of an operand
abbrev pub operand_bound : Data → Operand → ℕ
operand_bound spec One = 1
operand_bound spec (Flag b) = 1
operand_bound spec (Constant k) = unsigned_abs (constant_value spec k)
operand_bound spec (Label owner code) = unsigned_abs code
operand_bound spec (Read v) = variable_bound spec v
operand_bound spec (Primed v) = variable_bound spec v

-- the absolute factor times the bound of the operand
abbrev pub item_bound : Data → Item → ℕ
item_bound spec item = unsigned_abs item.factor * operand_bound spec item.operand

-- the sum of the absolute factors times the bounds of the operands
abbrev pub side_bound : Data → Expr → ℕ
side_bound spec e = sum_by (item_bound spec) e.items

-- the modes of a class
abbrev pub modes_of : Data → ℕ → List (List ℕ)
modes_of spec v = option_map_or (λ x. kind_modes x.kind) (slice_get spec.variables v) []

-- the names among which a label stands
abbrev pub labels_of : Data → Owner → List (List ℕ)
labels_of spec (Named k) = option_map_or (λ t. shape_labels t.shape) (slice_get spec.types k) []
labels_of spec (Class v) = modes_of spec v

-- the code is a place in the list
abbrev pub is_place : List (List ℕ) → ℤ → Bool
is_place names code = int_le (pos 0) code && int_lt code (pos (length names))

-- each variable, constant and label is one of the specification
abbrev pub is_operand_over : Data → Operand → Bool
is_operand_over spec One = true
is_operand_over spec (Flag b) = true
is_operand_over spec (Constant k) = nat_lt k (length spec.constants)
is_operand_over spec (Label owner code) = is_place (labels_of spec owner) code
is_operand_over spec (Read v) = nat_lt v (length spec.variables)
is_operand_over spec (Primed v) = nat_lt v (length spec.variables)

-- it is, and its factor is within the limit on numbers
abbrev pub is_item_over : Data → Item → Bool
is_item_over spec item = is_operand_over spec item.operand && nat_le (unsigned_abs item.factor) NUMBER_LIMIT

-- its items are, and its bound is within the limit
abbrev pub is_side_over : Data → Expr → Bool
is_side_over spec e = list_all (is_item_over spec) e.items && nat_le (side_bound spec e) SIDE_LIMIT

-- from the tests of the parts
abbrev pub over_step : Data → Cond-F Bool → Bool
over_step spec (Truth b) = true
over_step spec (Holds v) = nat_lt v (length spec.variables)
over_step spec (Compare l r m) = is_side_over spec l && is_side_over spec m
over_step spec (Not t) = t
over_step spec (And ts) = list_all (λ t. t) ts
over_step spec (Or ts) = list_all (λ t. t) ts

-- each variable and each side of the condition is one over the specification
abbrev pub is_cond_over : Data → Cond → Bool
is_cond_over spec c = fold-Cond Bool (over_step spec) c
