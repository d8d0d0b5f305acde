-- Sides of a specification as expressions of C.
use Rattle.std.specs.Prelude.{ℕ, ℤ, pos, ◌*ℤ◌, unsigned_abs, int_lt, nat_eq, if◌then◌else◌, Bool, false, Option, Some, None, List, [], ◌∷◌, map}
use Rattle.scr_spec.specs.Data.{Data}
use Rattle.scr_spec.specs.declared.cond.Operand.{Operand}
use Rattle.scr_spec.specs.declared.cond.Operand.TheVariants as operand
use Rattle.scr_spec.specs.declared.cond.Item.{Item}
use Rattle.scr_spec.specs.declared.cond.Expr.{Expr}
use Rattle.scr_spec.specs.Meaning.{operand_value}
use Rattle.c_subset.specs.declared.expr.CExpr.{CExpr}
use Rattle.c_subset.specs.declared.expr.CExpr.TheVariants.{Constant, Name, Minus, Product, Sum}
use Rattle.c_subset.specs.declared.expr.CTerm.{CTerm}
use Rattle.c_writer.specs.declared.side.LinearTerm.{LinearTerm}

-- what is before the object, or what stands alone: an item without a variable is its product
abbrev pub coefficient_of : Data → ℤ → Operand → ℤ
coefficient_of spec factor operand.One = factor *ℤ operand_value spec [] [] operand.One
coefficient_of spec factor (operand.Truth b) = factor *ℤ operand_value spec [] [] (operand.Truth b)
coefficient_of spec factor (operand.Constant k) = factor *ℤ operand_value spec [] [] (operand.Constant k)
coefficient_of spec factor (operand.Label owner code) = factor *ℤ operand_value spec [] [] (operand.Label owner code)
coefficient_of spec factor (operand.Variable v) = factor
coefficient_of spec factor (operand.Primed v) = factor

-- the object of an item with a variable; `plain` and `primed` name the objects of unprimed and primed variables
abbrev pub object_in : (ℕ → List ℕ) → (ℕ → List ℕ) → Operand → Option (List ℕ)
object_in plain primed operand.One = None
object_in plain primed (operand.Truth b) = None
object_in plain primed (operand.Constant k) = None
object_in plain primed (operand.Label owner code) = None
object_in plain primed (operand.Variable v) = Some (plain v)
object_in plain primed (operand.Primed v) = Some (primed v)

abbrev pub term_of_operand : Data → (ℕ → List ℕ) → (ℕ → List ℕ) → ℤ → Operand → LinearTerm
term_of_operand spec plain primed factor o = record { coefficient = coefficient_of spec factor o; object = object_in plain primed o }

abbrev pub term_of_item : Data → (ℕ → List ℕ) → (ℕ → List ℕ) → Item → LinearTerm
term_of_item spec plain primed item = term_of_operand spec plain primed item.factor item.operand

-- by the absolute coefficient; an object that is taken once stands alone
abbrev pub size_expr : ℕ → Option (List ℕ) → CExpr
size_expr n None = Constant (pos n)
size_expr n (Some name) = if nat_eq n 1 then Name name else Product (Constant (pos n) ∷ Name name ∷ [])

-- a leading minus belongs to the number, or to the object where that stands alone
abbrev pub negated_expr : ℕ → Option (List ℕ) → CExpr
negated_expr n None = Minus (Constant (pos n))
negated_expr n (Some name) = if nat_eq n 1 then Minus (Name name) else Product (Minus (Constant (pos n)) ∷ Name name ∷ [])

abbrev pub is_negative : ℤ → Bool
is_negative z = int_lt z (pos 0)

-- what stands first in a side, or alone
abbrev pub leading_expr : LinearTerm → CExpr
leading_expr w = if is_negative w.coefficient then negated_expr (unsigned_abs w.coefficient) w.object else size_expr (unsigned_abs w.coefficient) w.object

abbrev pub leading_term : LinearTerm → CTerm
leading_term w = record { minus = false; value = leading_expr w }

-- what is added or taken away
abbrev pub later_term : LinearTerm → CTerm
later_term w = record { minus = is_negative w.coefficient; value = size_expr (unsigned_abs w.coefficient) w.object }

abbrev pub sum_expr : List LinearTerm → CExpr
sum_expr [] = Constant (pos 0)
sum_expr (w ∷ []) = leading_expr w
sum_expr (w ∷ u ∷ us) = Sum (leading_term w ∷ later_term u ∷ map later_term us)

-- the expression of a side
abbrev pub side_expr : Data → (ℕ → List ℕ) → (ℕ → List ℕ) → Expr → CExpr
side_expr spec plain primed e = sum_expr (map (term_of_item spec plain primed) e.items)
