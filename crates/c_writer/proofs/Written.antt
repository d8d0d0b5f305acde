-- What is written has its limits.
use Rattle.std.proofs.Common.{◌≡◌, ℕ, ◌*◌, ◌≤◌, ℤ, pos, ◌*ℤ◌, Bool, true, false, List, sym, subst, arith, IsTrue}
use Rattle.std.specs.Prelude.{unsigned_abs, nat_le, Result, Ok, Err, IfOk}
use Rattle.std.proofs.lemmas.Bool.{and_parts, leb-true}
use Rattle.std.proofs.lemmas.Int.{unsigned_abs-mul}
use Rattle.std.proofs.Math.Nat.{mul-le-mul_left}
use Rattle.base.specs.declared.memory.NoMemory.{NoMemory}
use Rattle.scr_spec.specs.Data.{Data}
use Rattle.scr_spec.specs.declared.cond.Operand.{Operand}
use Rattle.scr_spec.specs.declared.cond.Operand.TheVariants as operand
use Rattle.scr_spec.specs.declared.cond.Item.{Item}
use Rattle.scr_spec.specs.Meaning.{truth_code, constant_value}
use Rattle.scr_spec.specs.Over.{operand_bound, item_bound, is_operand_over, is_item_over}
use Rattle.c_writer.specs.declared.side.LinearTerm.{LinearTerm}
use Rattle.c_writer.specs.Sides.{coefficient_of, term_of_item}

pub truth_size : (b : Bool) → unsigned_abs (truth_code b) ≤ 1
truth_size true = omega arith
truth_size false = omega arith

product_narrow : (factor v : ℤ) (n : ℕ) → unsigned_abs v ≤ n → unsigned_abs factor * n ≤ 2000000000 → unsigned_abs (factor *ℤ v) ≤ 2147483647
product_narrow factor v n h k =
    let size : unsigned_abs (factor *ℤ v) ≤ unsigned_abs factor * n = subst (λ m. m ≤ unsigned_abs factor * n) (sym (unsigned_abs-mul factor v)) (mul-le-mul_left (unsigned_abs factor) h) in
    omega (arith, size, k)

-- the coefficient of an item is small
pub coefficient_narrow : (spec : Data) (factor : ℤ) (o : Operand) → unsigned_abs factor ≤ 1000000 → unsigned_abs factor * operand_bound spec o ≤ 2000000000 → unsigned_abs (coefficient_of spec factor o) ≤ 2147483647
coefficient_narrow spec factor operand.One h k = product_narrow factor (pos 1) 1 (omega arith) k
coefficient_narrow spec factor (operand.Truth b) h k = product_narrow factor (truth_code b) 1 (truth_size b) k
coefficient_narrow spec factor (operand.Constant c) h k = product_narrow factor (constant_value spec c) (unsigned_abs (constant_value spec c)) (omega arith) k
coefficient_narrow spec factor (operand.Label owner code) h k = product_narrow factor code (unsigned_abs code) (omega arith) k
coefficient_narrow spec factor (operand.Variable v) h k = omega (arith, h)
coefficient_narrow spec factor (operand.Primed v) h k = omega (arith, h)

item_narrow : (spec : Data) (item : Item) → IsTrue (is_item_over spec item) → item_bound spec item ≤ 2000000000 → unsigned_abs (coefficient_of spec item.factor item.operand) ≤ 2147483647
item_narrow spec item over k =
    let both = and_parts (is_operand_over spec item.operand) (nat_le (unsigned_abs item.factor) 1000000) over in
    coefficient_narrow spec item.factor item.operand (leb-true _ _ both.1) k

-- of an item that is written
pub narrow_coefficient : (spec : Data) (p q : ℕ → List ℕ) (item : Item) (r : Result LinearTerm NoMemory) → IsTrue (is_item_over spec item) → item_bound spec item ≤ 2000000000 → IfOk r (λ w. w ≡ term_of_item spec p q item)
    → IfOk r (λ w. unsigned_abs w.coefficient ≤ 2147483647)
narrow_coefficient spec p q item (Ok w) over k e = subst (λ (x : LinearTerm). unsigned_abs x.coefficient ≤ 2147483647) (sym e) (item_narrow spec item over k)
narrow_coefficient spec p q item (Err x) over k e = e
