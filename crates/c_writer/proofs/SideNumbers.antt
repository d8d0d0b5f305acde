-- The expression of a side has the side's value.
use Rattle.std.proofs.Common.{◌≡◌, ℕ, zero, suc, ◌+◌, ◌*◌, ◌≤◌, ℤ, pos, negsuc, ◌+ℤ◌, ◌-ℤ◌, ◌*ℤ◌, neg_ℤ, Bool, true, false, cond, List, [], ◌∷◌, map, Option, Some, None, refl, sym, ap, subst, ◌∙◌, arith, IsTrue}
use Rattle.std.specs.Prelude.{unsigned_abs, nat_eq, nat_le, if◌then◌else◌, fold, sum_by}
use Rattle.std.specs.List.{list_all, AllByRecursion as Each}
use Rattle.std.proofs.lemmas.Bool.{and_parts, leb-true, le-leb, ltb-true, eqb-true, false≢true}
use Rattle.std.proofs.lemmas.Int.{ints, unsigned_abs-mul}
use Rattle.std.proofs.lemmas.List.Sums.{sum_by-cons}
use Rattle.std.proofs.lemmas.Option.{same_Some}
use Rattle.std.proofs.Math.Nat.{mul-le-mul_left}
use Rattle.scr_spec.specs.Data.{Data}
use Rattle.scr_spec.specs.declared.cond.Operand.{Operand}
use Rattle.scr_spec.specs.declared.cond.Operand.TheVariants as operand
use Rattle.scr_spec.specs.declared.cond.Item.{Item}
use Rattle.scr_spec.specs.declared.cond.Expr.{Expr}
use Rattle.scr_spec.specs.Meaning.{Codes, code_of, truth_code, constant_value, operand_value, item_value, side_value}
use Rattle.scr_spec.specs.Domains.{IsTyped, domain_of}
use Rattle.dd_formula.proofs.Totals.{neg_product}
use Rattle.scr_spec.specs.Over.{operand_bound, item_bound, side_bound, is_operand_over, is_item_over, is_side_over}
use Rattle.c_subset.specs.declared.expr.CExpr.{CExpr}
use Rattle.c_subset.specs.declared.expr.CExpr.TheVariants.{Constant, Name, Minus, Product}
use Rattle.c_subset.specs.Parts.{Term}
use Rattle.c_subset.specs.Meaning.{Objects, Names, name_value, checked, times, plus, minus, negative, product_of, number_of}
use Rattle.c_writer.specs.declared.side.LinearTerm.{LinearTerm}
use Rattle.c_writer.specs.Sides.{term_of_operand, term_of_item, size_expr, negated_expr, is_negative, leading_expr, leading_term, later_term, sum_expr, side_expr}
use Rattle.c_writer.proofs.Written.{truth_size}
use Rattle.c_writer.proofs.Meanings.{number_of-Constant, number_of-Name, number_of-Minus, number_of-Product, number_of-Sum, term_number}
use Rattle.scr_spec.proofs.Sizes.{code_bounded}
use Rattle.base.proofs.Sizes.{sum_size}

-- ---- numbers in range

pub checked_in : (z : ℤ) → unsigned_abs z ≤ 2147483647 → checked z ≡ Some z
checked_in z h = ap (λ b. cond b (Some z) None) (le-leb _ _ h)

unit_times : (z : ℤ) → pos 1 *ℤ z ≡ z
unit_times z = omega (arith, ints)

pub times_unit : (z : ℤ) → z *ℤ pos 1 ≡ z
times_unit z = omega (arith, ints)

neg_size : (n : ℕ) → unsigned_abs (neg_ℤ (pos n)) ≡ n
neg_size zero = refl
neg_size (suc n) = refl

neg_length : (z : ℤ) → unsigned_abs (neg_ℤ z) ≡ unsigned_abs z
neg_length (pos zero) = refl
neg_length (pos (suc n)) = refl
neg_length (negsuc n) = refl

product_size : (a b : ℤ) (n m : ℕ) → unsigned_abs a ≡ n → n * unsigned_abs b ≤ m → unsigned_abs (a *ℤ b) ≤ m
product_size a b n m e h = subst (λ k. k ≤ m) (sym (unsigned_abs-mul a b ∙ ap (λ k. k * unsigned_abs b) e)) h

-- the product of two numbers
two_product : (a b : ℤ) (p q : Option ℤ) → p ≡ Some a → q ≡ Some b → unsigned_abs a ≤ 2147483647 → unsigned_abs (a *ℤ b) ≤ 2147483647 → product_of (p ∷ q ∷ []) ≡ Some (a *ℤ b)
two_product a b p q e f h k =
    let first : times (Some (pos 1)) (Some a) ≡ Some a = ap checked (unit_times a) ∙ checked_in a h in
    ap (λ m. product_of (m ∷ q ∷ [])) e ∙ ap (λ m. product_of (Some a ∷ m ∷ [])) f ∙ ap (λ m. times m (Some b)) first ∙ checked_in (a *ℤ b) k

-- ---- a number, or a number times an object

-- a number alone is taken once
abbrev pub object_number : Names → Objects → Option (List ℕ) → Option ℤ
object_number names row None = Some (pos 1)
object_number names row (Some name) = name_value names row name

one_time : (n : ℕ) (z : ℤ) → n ≡ 1 → z ≡ pos n *ℤ z
one_time n z e = subst (λ m. z ≡ pos m *ℤ z) (sym e) (sym (unit_times z))

alone_number : (names : Names) (row : Objects) (n : ℕ) (name : List ℕ) (z : ℤ) (b : Bool) → nat_eq n 1 ≡ b → name_value names row name ≡ Some z → n ≤ 2147483647 → n * unsigned_abs z ≤ 2147483647
    → number_of names row (if b then Name name else Product (Constant (pos n) ∷ Name name ∷ [])) ≡ Some (pos n *ℤ z)
alone_number names row n name z true f e h k = number_of-Name names row name ∙ e ∙ ap (λ x. Some x) (one_time n z (eqb-true n 1 f))
alone_number names row n name z false f e h k =
    number_of-Product names row (Constant (pos n) ∷ Name name ∷ [])
    ∙ two_product (pos n) z _ _ (number_of-Constant names row (pos n)) (number_of-Name names row name ∙ e) h (product_size (pos n) z n 2147483647 refl k)

size_number : (names : Names) (row : Objects) (n : ℕ) (o : Option (List ℕ)) (z : ℤ) → object_number names row o ≡ Some z → n ≤ 2147483647 → n * unsigned_abs z ≤ 2147483647
    → number_of names row (size_expr n o) ≡ Some (pos n *ℤ z)
size_number names row n None z e h k =
    let one : pos 1 ≡ z = same_Some (pos 1) z e in
    number_of-Constant names row (pos n) ∙ ap (λ x. Some x) (sym (times_unit (pos n)) ∙ ap (λ x. pos n *ℤ x) one)
size_number names row n (Some name) z e h k = alone_number names row n name z (nat_eq n 1) refl e h k

minus_number : (names : Names) (row : Objects) (e : CExpr) (z : ℤ) → number_of names row e ≡ Some z → unsigned_abs z ≤ 2147483647 → number_of names row (Minus e) ≡ Some (neg_ℤ z)
minus_number names row e z f h = number_of-Minus names row e ∙ ap negative f ∙ checked_in (neg_ℤ z) (subst (λ m. m ≤ 2147483647) (sym (neg_length z)) h)

neg_one_time : (n : ℕ) (z : ℤ) → n ≡ 1 → neg_ℤ z ≡ neg_ℤ (pos n) *ℤ z
neg_one_time n z e = ap neg_ℤ (one_time n z e) ∙ sym (neg_product (pos n) z)

within_once : (n m z : ℕ) → n ≡ 1 → n * z ≤ m → z ≤ m
within_once n m z e h = subst (λ k. k ≤ m) (ap (λ k. k * z) e ∙ omega arith) h

alone_negated : (names : Names) (row : Objects) (n : ℕ) (name : List ℕ) (z : ℤ) (b : Bool) → nat_eq n 1 ≡ b → name_value names row name ≡ Some z → n ≤ 2147483647 → n * unsigned_abs z ≤ 2147483647
    → number_of names row (if b then Minus (Name name) else Product (Minus (Constant (pos n)) ∷ Name name ∷ [])) ≡ Some (neg_ℤ (pos n) *ℤ z)
alone_negated names row n name z true f e h k =
    minus_number names row (Name name) z (number_of-Name names row name ∙ e) (within_once n 2147483647 (unsigned_abs z) (eqb-true n 1 f) k)
    ∙ ap (λ x. Some x) (neg_one_time n z (eqb-true n 1 f))
alone_negated names row n name z false f e h k =
    number_of-Product names row (Minus (Constant (pos n)) ∷ Name name ∷ [])
    ∙ two_product (neg_ℤ (pos n)) z _ _ (minus_number names row (Constant (pos n)) (pos n) (number_of-Constant names row (pos n)) h) (number_of-Name names row name ∙ e)
    (subst (λ m. m ≤ 2147483647) (sym (neg_size n)) h) (product_size (neg_ℤ (pos n)) z n 2147483647 (neg_size n) k)

negated_number : (names : Names) (row : Objects) (n : ℕ) (o : Option (List ℕ)) (z : ℤ) → object_number names row o ≡ Some z → n ≤ 2147483647 → n * unsigned_abs z ≤ 2147483647
    → number_of names row (negated_expr n o) ≡ Some (neg_ℤ (pos n) *ℤ z)
negated_number names row n None z e h k =
    let one : pos 1 ≡ z = same_Some (pos 1) z e in
    minus_number names row (Constant (pos n)) (pos n) (number_of-Constant names row (pos n)) h ∙ ap (λ x. Some x) (sym (times_unit (neg_ℤ (pos n))) ∙ ap (λ x. neg_ℤ (pos n) *ℤ x) one)
negated_number names row n (Some name) z e h k = alone_negated names row n name z (nat_eq n 1) refl e h k

-- ---- signs

negative_is : (z : ℤ) → is_negative z ≡ true → neg_ℤ (pos (unsigned_abs z)) ≡ z
negative_is (pos n) h = absurd (omega (arith, ltb-true n 0 h))
negative_is (negsuc n) h = refl

positive_is : (z : ℤ) → is_negative z ≡ false → pos (unsigned_abs z) ≡ z
positive_is (pos n) h = refl
positive_is (negsuc n) h = absurd (false≢true (sym h))

leading_by : (names : Names) (row : Objects) (w : LinearTerm) (z : ℤ) (b : Bool) → is_negative w.coefficient ≡ b → object_number names row w.object ≡ Some z
    → unsigned_abs w.coefficient ≤ 2147483647 → unsigned_abs w.coefficient * unsigned_abs z ≤ 2147483647
    → number_of names row (if b then negated_expr (unsigned_abs w.coefficient) w.object else size_expr (unsigned_abs w.coefficient) w.object) ≡ Some (w.coefficient *ℤ z)
leading_by names row w z true f e h k =
    negated_number names row (unsigned_abs w.coefficient) w.object z e h k ∙ ap (λ x. Some (x *ℤ z)) (negative_is w.coefficient f)
leading_by names row w z false f e h k =
    size_number names row (unsigned_abs w.coefficient) w.object z e h k ∙ ap (λ x. Some (x *ℤ z)) (positive_is w.coefficient f)

pub leading_number : (names : Names) (row : Objects) (w : LinearTerm) (z : ℤ) → object_number names row w.object ≡ Some z
    → unsigned_abs w.coefficient ≤ 2147483647 → unsigned_abs w.coefficient * unsigned_abs z ≤ 2147483647 → number_of names row (leading_expr w) ≡ Some (w.coefficient *ℤ z)
leading_number names row w z e h k = leading_by names row w z (is_negative w.coefficient) refl e h k

-- one more term
abbrev pub sum_step : Option ℤ → Term (Option ℤ) → Option ℤ
sum_step sum t = cond t.minus (minus sum t.value) (plus sum t.value)

taken_away : (a x z : ℤ) → neg_ℤ x ≡ z → (y : ℤ) → a -ℤ x *ℤ y ≡ a +ℤ z *ℤ y
taken_away a x z e y =
    let h : z *ℤ y ≡ neg_ℤ (x *ℤ y) = ap (λ k. k *ℤ y) (sym e) ∙ neg_product x y in
    omega (arith, ints, h)

step_by : (acc coefficient z : ℤ) (b : Bool) → is_negative coefficient ≡ b → unsigned_abs (acc +ℤ coefficient *ℤ z) ≤ 2147483647
    → sum_step (Some acc) (record { minus = b; value = Some (pos (unsigned_abs coefficient) *ℤ z) }) ≡ Some (acc +ℤ coefficient *ℤ z)
step_by acc coefficient z true f h = ap checked (taken_away acc (pos (unsigned_abs coefficient)) coefficient (negative_is coefficient f) z) ∙ checked_in _ h
step_by acc coefficient z false f h = ap (λ x. checked (acc +ℤ x *ℤ z)) (positive_is coefficient f) ∙ checked_in _ h

later_step : (names : Names) (row : Objects) (acc : ℤ) (w : LinearTerm) (z : ℤ) → object_number names row w.object ≡ Some z
    → unsigned_abs w.coefficient ≤ 2147483647 → unsigned_abs w.coefficient * unsigned_abs z ≤ 2147483647 → unsigned_abs (acc +ℤ w.coefficient *ℤ z) ≤ 2147483647
    → sum_step (Some acc) (term_number names row (later_term w)) ≡ Some (acc +ℤ w.coefficient *ℤ z)
later_step names row acc w z e h k m =
    ap (λ v. sum_step (Some acc) (record { minus = is_negative w.coefficient; value = v })) (size_number names row (unsigned_abs w.coefficient) w.object z e h k)
    ∙ step_by acc w.coefficient z (is_negative w.coefficient) refl m

-- ---- items

-- what an item stands for has a number, and its parts are in range
pub record Numbered (names : Names) (row : Objects) (spec : Data) (old new : Codes) (factor : ℤ) (o : Operand) (w : LinearTerm) : Type 0 where
  pub number : ℤ
  pub reads : object_number names row w.object ≡ Some number
  pub value : w.coefficient *ℤ number ≡ factor *ℤ operand_value spec old new o
  pub narrow : unsigned_abs w.coefficient ≤ 2000000000
  pub bounded : unsigned_abs w.coefficient * unsigned_abs number ≤ unsigned_abs factor * operand_bound spec o

-- the objects of what the operand names have its codes
abbrev pub OperandShown : Names → Objects → Data → (ℕ → List ℕ) → (ℕ → List ℕ) → Codes → Codes → Operand → Type 0
OperandShown names row spec plain primed old new operand.One = Unit {0}
OperandShown names row spec plain primed old new (operand.Truth b) = Unit {0}
OperandShown names row spec plain primed old new (operand.Constant k) = Unit {0}
OperandShown names row spec plain primed old new (operand.Label owner code) = Unit {0}
OperandShown names row spec plain primed old new (operand.Variable v) = name_value names row (plain v) ≡ Some (code_of old v)
OperandShown names row spec plain primed old new (operand.Primed v) = name_value names row (primed v) ≡ Some (code_of new v)

-- a number alone
fixed_numbered : (names : Names) (row : Objects) (spec : Data) (old new : Codes) (factor v : ℤ) (o : Operand) → operand_value spec old new o ≡ v → unsigned_abs v ≤ operand_bound spec o
    → unsigned_abs factor * operand_bound spec o ≤ 2000000000 → Numbered names row spec old new factor o (record { coefficient = factor *ℤ v; object = None })
fixed_numbered names row spec old new factor v o e h k =
    let size : unsigned_abs (factor *ℤ v) ≤ unsigned_abs factor * operand_bound spec o = subst (λ m. m ≤ unsigned_abs factor * operand_bound spec o) (sym (unsigned_abs-mul factor v)) (mul-le-mul_left (unsigned_abs factor) h) in
    record {
      number = pos 1;
      reads = refl;
      value = times_unit (factor *ℤ v) ∙ ap (λ x. factor *ℤ x) (sym e);
      narrow = omega (arith, size, k);
      bounded = omega (arith, size);
    }

-- a number times an object
object_numbered : (names : Names) (row : Objects) (spec : Data) (old new : Codes) (factor code : ℤ) (o : Operand) (name : List ℕ) → operand_value spec old new o ≡ code → name_value names row name ≡ Some code
    → unsigned_abs code ≤ operand_bound spec o → unsigned_abs factor ≤ 1000000 → Numbered names row spec old new factor o (record { coefficient = factor; object = Some name })
object_numbered names row spec old new factor code o name e f h k = record {
  number = code;
  reads = f;
  value = ap (λ x. factor *ℤ x) (sym e);
  narrow = omega (arith, k);
  bounded = mul-le-mul_left (unsigned_abs factor) h;
}

operand_numbered : (names : Names) (row : Objects) (spec : Data) (plain primed : ℕ → List ℕ) (old new : Codes) (factor : ℤ) (o : Operand) → IsTyped spec old → IsTyped spec new
    → IsTrue (is_operand_over spec o) → unsigned_abs factor ≤ 1000000 → unsigned_abs factor * operand_bound spec o ≤ 2000000000 → OperandShown names row spec plain primed old new o
    → Numbered names row spec old new factor o (term_of_operand spec plain primed factor o)
operand_numbered names row spec plain primed old new factor operand.One t u over h k shown = fixed_numbered names row spec old new factor (pos 1) operand.One refl (omega arith) k
operand_numbered names row spec plain primed old new factor (operand.Truth b) t u over h k shown = fixed_numbered names row spec old new factor (truth_code b) (operand.Truth b) refl (truth_size b) k
operand_numbered names row spec plain primed old new factor (operand.Constant c) t u over h k shown = fixed_numbered names row spec old new factor (constant_value spec c) (operand.Constant c) refl (omega arith) k
operand_numbered names row spec plain primed old new factor (operand.Label owner code) t u over h k shown = fixed_numbered names row spec old new factor code (operand.Label owner code) refl (omega arith) k
operand_numbered names row spec plain primed old new factor (operand.Variable v) t u over h k shown =
    object_numbered names row spec old new factor (code_of old v) (operand.Variable v) (plain v) refl shown (code_bounded (domain_of spec v) (code_of old v) (t.within v (ltb-true _ _ over))) h
operand_numbered names row spec plain primed old new factor (operand.Primed v) t u over h k shown =
    object_numbered names row spec old new factor (code_of new v) (operand.Primed v) (primed v) refl shown (code_bounded (domain_of spec v) (code_of new v) (u.within v (ltb-true _ _ over))) h

-- ---- sides

abbrev pub ItemNumbered : Names → Objects → Data → (ℕ → List ℕ) → (ℕ → List ℕ) → Codes → Codes → Item → Type 0
ItemNumbered names row spec plain primed old new item = Numbered names row spec old new item.factor item.operand (term_of_item spec plain primed item)

item_size : (names : Names) (row : Objects) (spec : Data) (plain primed : ℕ → List ℕ) (old new : Codes) (item : Item) → ItemNumbered names row spec plain primed old new item
    → unsigned_abs (item_value spec old new item) ≤ item_bound spec item
item_size names row spec plain primed old new item n =
    subst (λ m. unsigned_abs m ≤ item_bound spec item) n.value
    (subst (λ m. m ≤ item_bound spec item) (sym (unsigned_abs-mul (term_of_item spec plain primed item).coefficient n.number)) n.bounded)

sum_by-head : (spec : Data) (i : Item) (is : List Item) → sum_by (item_bound spec) (i ∷ is) ≡ item_bound spec i + sum_by (item_bound spec) is
sum_by-head spec i is = sum_by-cons (item_bound spec) i is

items_sum : (names : Names) (row : Objects) (spec : Data) (plain primed : ℕ → List ℕ) (old new : Codes) (items : List Item) (acc : ℤ) → Each (ItemNumbered names row spec plain primed old new) items
    → unsigned_abs acc + sum_by (item_bound spec) items ≤ 2000000000
    → fold sum_step (Some acc) (map (term_number names row) (map later_term (map (term_of_item spec plain primed) items))) ≡ Some (fold (λ sum item. sum +ℤ item_value spec old new item) acc items)
items_sum names row spec plain primed old new [] acc each h = refl
items_sum names row spec plain primed old new (i ∷ is) acc each h =
    let n = each.0 in
    let w = term_of_item spec plain primed i in
    let value = item_value spec old new i in
    let head = sum_by-head spec i is in
    let small = item_size names row spec plain primed old new i n in
    let both = sum_size acc value in
    let total : unsigned_abs (acc +ℤ value) + sum_by (item_bound spec) is ≤ 2000000000 = omega (arith, head, small, both, h) in
    let inside : unsigned_abs (acc +ℤ w.coefficient *ℤ n.number) ≤ 2147483647 = subst (λ m. unsigned_abs (acc +ℤ m) ≤ 2147483647) (sym n.value) (omega (arith, total)) in
    let coefficient : unsigned_abs w.coefficient ≤ 2147483647 = omega (arith, n.narrow) in
    let product : unsigned_abs w.coefficient * unsigned_abs n.number ≤ 2147483647 = omega (arith, n.bounded, head, h) in
    let here : sum_step (Some acc) (term_number names row (later_term w)) ≡ Some (acc +ℤ value)
    = later_step names row acc w n.number n.reads coefficient product inside ∙ ap (λ x. Some (acc +ℤ x)) n.value in
    ap (λ m. fold sum_step m (map (term_number names row) (map later_term (map (term_of_item spec plain primed) is)))) here
    ∙ items_sum names row spec plain primed old new is (acc +ℤ value) each.1 total

pub zero_plus : (z : ℤ) → pos 0 +ℤ z ≡ z
zero_plus z = omega (arith, ints)

first_step : (names : Names) (row : Objects) (w : LinearTerm) (v : ℤ) → number_of names row (leading_expr w) ≡ Some v → unsigned_abs v ≤ 2147483647
    → sum_step (Some (pos 0)) (term_number names row (leading_term w)) ≡ Some (pos 0 +ℤ v)
first_step names row w v e h =
    ap (λ x. sum_step (Some (pos 0)) (record { minus = false; value = x })) e
    ∙ checked_in (pos 0 +ℤ v) (subst (λ m. unsigned_abs m ≤ 2147483647) (sym (zero_plus v)) h)

-- the first item, alone or before others
first_number : (names : Names) (row : Objects) (spec : Data) (plain primed : ℕ → List ℕ) (old new : Codes) (i : Item) → ItemNumbered names row spec plain primed old new i → item_bound spec i ≤ 2000000000
    → number_of names row (leading_expr (term_of_item spec plain primed i)) ≡ Some (item_value spec old new i)
first_number names row spec plain primed old new i n h =
    let w = term_of_item spec plain primed i in
    leading_number names row w n.number n.reads (omega (arith, n.narrow)) (omega (arith, n.bounded, h)) ∙ ap (λ x. Some x) n.value

side_items : (names : Names) (row : Objects) (spec : Data) (plain primed : ℕ → List ℕ) (old new : Codes) (items : List Item) → Each (ItemNumbered names row spec plain primed old new) items
    → sum_by (item_bound spec) items ≤ 2000000000
    → number_of names row (sum_expr (map (term_of_item spec plain primed) items)) ≡ Some (fold (λ sum item. sum +ℤ item_value spec old new item) (pos 0) items)
side_items names row spec plain primed old new [] each h = number_of-Constant names row (pos 0)
side_items names row spec plain primed old new (i ∷ []) each h =
    first_number names row spec plain primed old new i each.0 (omega (arith, sum_by-head spec i [], h)) ∙ ap (λ x. Some x) (sym (zero_plus (item_value spec old new i)))
side_items names row spec plain primed old new (i ∷ j ∷ js) each h =
    let w = term_of_item spec plain primed i in
    let value = item_value spec old new i in
    let head = sum_by-head spec i (j ∷ js) in
    let small = item_size names row spec plain primed old new i each.0 in
    let first : sum_step (Some (pos 0)) (term_number names row (leading_term w)) ≡ Some (pos 0 +ℤ value)
    = first_step names row w value (first_number names row spec plain primed old new i each.0 (omega (arith, head, h))) (omega (arith, small, head, h)) in
    let rest : unsigned_abs (pos 0 +ℤ value) + sum_by (item_bound spec) (j ∷ js) ≤ 2000000000
    = subst (λ m. unsigned_abs m + sum_by (item_bound spec) (j ∷ js) ≤ 2000000000) (sym (zero_plus value)) (omega (arith, small, head, h)) in
    number_of-Sum names row (leading_term w ∷ map later_term (map (term_of_item spec plain primed) (j ∷ js)))
    ∙ ap (λ m. fold sum_step m (map (term_number names row) (map later_term (map (term_of_item spec plain primed) (j ∷ js))))) first
    ∙ items_sum names row spec plain primed old new (j ∷ js) (pos 0 +ℤ value) each.1 rest

-- the items of a side over the specification, whose objects have the codes
each_numbered : (names : Names) (row : Objects) (spec : Data) (plain primed : ℕ → List ℕ) (old new : Codes) (items : List Item) → IsTyped spec old → IsTyped spec new
    → IsTrue (list_all (is_item_over spec) items) → sum_by (item_bound spec) items ≤ 2000000000 → Each (λ (i : Item). OperandShown names row spec plain primed old new i.operand) items
    → Each (ItemNumbered names row spec plain primed old new) items
each_numbered names row spec plain primed old new [] t u over h shown = tt
each_numbered names row spec plain primed old new (i ∷ is) t u over h shown =
    let both = and_parts (is_item_over spec i) (list_all (is_item_over spec) is) over in
    let item = and_parts (is_operand_over spec i.operand) (nat_le (unsigned_abs i.factor) 1000000) (both.0) in
    let head = sum_by-head spec i is in (
      operand_numbered names row spec plain primed old new i.factor i.operand t u item.0 (leb-true _ _ item.1) (omega (arith, head, h)) shown.0,
      each_numbered names row spec plain primed old new is t u both.1 (omega (arith, head, h)) shown.1,
    )

pub side_number : (names : Names) (row : Objects) (spec : Data) (plain primed : ℕ → List ℕ) (old new : Codes) (e : Expr) → IsTyped spec old → IsTyped spec new → IsTrue (is_side_over spec e)
    → Each (λ (i : Item). OperandShown names row spec plain primed old new i.operand) e.items → number_of names row (side_expr spec plain primed e) ≡ Some (side_value spec old new e)
side_number names row spec plain primed old new e t u over shown =
    let both = and_parts (list_all (is_item_over spec) e.items) (nat_le (side_bound spec e) 2000000000) over in
    let small = leb-true _ _ both.1 in
    side_items names row spec plain primed old new e.items (each_numbered names row spec plain primed old new e.items t u both.0 small shown) small
