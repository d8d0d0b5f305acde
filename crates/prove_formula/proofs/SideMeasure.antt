-- The terms and the constant of a side are within the side's bound, at levels of the specification.
use Rattle.std.proofs.Common.{◌≡◌, ℕ, ◌+◌, ◌*◌, ◌/◌, ◌<◌, ◌≤◌, ℤ, pos, neg_ℤ, ◌+ℤ◌, ◌-ℤ◌, ◌*ℤ◌, Bool, true, false, List, [], ◌∷◌, map, length, refl, ap, ◌∙◌, arith, IsTrue}
use Rattle.std.specs.Prelude.{unsigned_abs, sum_by, nat_lt, nat_le}
use Rattle.std.specs.List.{filter_map, cons_option, list_all}
use Rattle.std.proofs.lemmas.Bool.{and_parts, and_from, ltb-true, lt-ltb, leb-true, le-leb}
use Rattle.std.proofs.lemmas.Int.{ints, unsigned_abs-mul}
use Rattle.std.proofs.lemmas.List.Folds.{list_all-append}
use Rattle.std.proofs.lemmas.List.Sums.{sum_by-append, sum_by-cons}
use Rattle.scr_spec.specs.Data.{Data}
use Rattle.scr_spec.specs.declared.cond.Operand.{Operand}
use Rattle.scr_spec.specs.declared.cond.Operand.TheVariants.{One, Truth as Flag, Constant, Label, Variable, Primed}
use Rattle.scr_spec.specs.declared.cond.Item.{Item}
use Rattle.scr_spec.specs.declared.cond.Expr.{Expr}
use Rattle.scr_spec.specs.Meaning.{constant_value, truth_code}
use Rattle.scr_spec.specs.Over.{variable_bound, operand_bound, item_bound, side_bound, is_operand_over, is_item_over, is_side_over}
use Rattle.dd_formula.specs.declared.formula.Op.{Op}
use Rattle.dd_formula.specs.declared.formula.Term.{Term}
use Rattle.prove_formula.specs.declared.side.Reading.{Reading}
use Rattle.prove_formula.specs.Levels.{level_of}
use Rattle.prove_formula.specs.Sides.{plain_in_new, primed_in_new, term_of, fixed_value, side_terms, side_constant, negated, difference, one_more}
use Rattle.prove_formula.specs.Measure.{level_bound, term_measure, measure, is_own_level, is_atom_over}
use Rattle.dd_formula.proofs.Totals.{total, fold_total}
use Rattle.prove_formula.proofs.Products.{product_bounded}
use Rattle.base.proofs.Sizes.{sum_size}

-- a level tells its variable
pub level_of-half : (b : Bool) (v : ℕ) → level_of b v / 2 ≡ v
level_of-half true v = omega arith
level_of-half false v = omega arith

-- the levels of a variable of the specification are its own
pub own_level : (b : Bool) (v n : ℕ) → v < n → IsTrue (nat_lt (level_of b v) (2 * n))
own_level true v n h = lt-ltb _ _ (omega arith)
own_level false v n h = lt-ltb _ _ (omega arith)

-- a number and its negation are of one size
pub neg_size : (z : ℤ) → unsigned_abs (neg_ℤ z) ≡ unsigned_abs z
neg_size z = grind (arith, ints)

-- a truth is 0 or 1
truth_size : (b : Bool) → unsigned_abs (truth_code b) ≤ 1
truth_size true = omega arith
truth_size false = omega arith

-- nothing is added by what is no constant
no_product : (a : ℤ) → unsigned_abs (a *ℤ pos 0) ≡ 0
no_product a = unsigned_abs-mul a (pos 0) ∙ omega arith

-- the measure of the term of an item
term_size : (spec : Data) (b : Bool) (item : Item) (v : ℕ) → term_measure spec (record { factor = item.factor; level = level_of b v }) ≡ unsigned_abs item.factor * variable_bound spec v
term_size spec b item v = ap (λ w. unsigned_abs item.factor * variable_bound spec w) (level_of-half b v)

-- what an item adds to the terms and to the constant is within its bound
item_small : (spec : Data) (r : Reading) (item : Item) (o : Operand) (rest : List Term)
    → sum_by (term_measure spec) (cons_option (term_of r item o) rest) + unsigned_abs (item.factor *ℤ fixed_value spec o) ≤ unsigned_abs item.factor * operand_bound spec o + sum_by (term_measure spec) rest
item_small spec r item One rest = let h = product_bounded item.factor (pos 1) 1 (omega arith) in omega (arith, h)
item_small spec r item (Flag b) rest = let h = product_bounded item.factor (truth_code b) 1 (truth_size b) in omega (arith, h)
item_small spec r item (Constant k) rest = let h = product_bounded item.factor (constant_value spec k) (unsigned_abs (constant_value spec k)) (omega arith) in omega (arith, h)
item_small spec r item (Label owner code) rest = let h = product_bounded item.factor code (unsigned_abs code) (omega arith) in omega (arith, h)
item_small spec r item (Variable v) rest =
    let h = no_product item.factor in
    let k = term_size spec (plain_in_new r) item v in
    let c = sum_by-cons (term_measure spec) (record { factor = item.factor; level = level_of (plain_in_new r) v }) rest in
    omega (arith, h, k, c)
item_small spec r item (Primed v) rest =
    let h = no_product item.factor in
    let k = term_size spec (primed_in_new r) item v in
    let c = sum_by-cons (term_measure spec) (record { factor = item.factor; level = level_of (primed_in_new r) v }) rest in
    omega (arith, h, k, c)

-- what the items add is within their bounds
items_small : (spec : Data) (r : Reading) (items : List Item)
    → sum_by (term_measure spec) (filter_map (λ item. term_of r item item.operand) items) + unsigned_abs (total (λ item. item.factor *ℤ fixed_value spec item.operand) items) ≤ sum_by (item_bound spec) items
items_small spec r [] = omega arith
items_small spec r (x ∷ xs) =
    let here = item_small spec r x x.operand (filter_map (λ item. term_of r item item.operand) xs) in
    let rest = items_small spec r xs in
    let sum = sum_size (x.factor *ℤ fixed_value spec x.operand) (total (λ item. item.factor *ℤ fixed_value spec item.operand) xs) in
    omega (arith, here, rest, sum, sum_by-cons (item_bound spec) x xs)

-- terms and constant together are within the bound
pub side_small : (spec : Data) (r : Reading) (e : Expr) → sum_by (term_measure spec) (side_terms r e) + unsigned_abs (side_constant spec e) ≤ side_bound spec e
side_small spec r e =
    let h = items_small spec r e.items in
    let k = ap unsigned_abs (fold_total (λ (item : Item). item.factor *ℤ fixed_value spec item.operand) e.items) in
    omega (arith, h, k)

-- the level of an item
item_own : (spec : Data) (r : Reading) (item : Item) (o : Operand) (rest : List Term) → IsTrue (is_operand_over spec o) → IsTrue (list_all (is_own_level spec) rest)
    → IsTrue (list_all (is_own_level spec) (cons_option (term_of r item o) rest))
item_own spec r item One rest h k = k
item_own spec r item (Flag b) rest h k = k
item_own spec r item (Constant c) rest h k = k
item_own spec r item (Label owner code) rest h k = k
item_own spec r item (Variable v) rest h k = and_from _ _ (own_level (plain_in_new r) v (length spec.variables) (ltb-true _ _ h)) k
item_own spec r item (Primed v) rest h k = and_from _ _ (own_level (primed_in_new r) v (length spec.variables) (ltb-true _ _ h)) k

-- the levels of items
items_own : (spec : Data) (r : Reading) (items : List Item) → IsTrue (list_all (is_item_over spec) items)
    → IsTrue (list_all (is_own_level spec) (filter_map (λ item. term_of r item item.operand) items))
items_own spec r [] h = refl
items_own spec r (x ∷ xs) h =
    let both = and_parts (is_item_over spec x) (list_all (is_item_over spec) xs) h in
    let operand = and_parts (is_operand_over spec x.operand) (nat_le (unsigned_abs x.factor) 1000000) (both.0) in
    item_own spec r x x.operand _ (operand.0) (items_own spec r xs (both.1))

-- the levels of a side
pub side_own : (spec : Data) (r : Reading) (e : Expr) → IsTrue (is_side_over spec e) → IsTrue (list_all (is_own_level spec) (side_terms r e))
side_own spec r e h = items_own spec r e.items ((and_parts (list_all (is_item_over spec) e.items) (nat_le (side_bound spec e) 2000000000) h).0)

-- the bound of a side
pub side_fits : (spec : Data) (e : Expr) → IsTrue (is_side_over spec e) → side_bound spec e ≤ 2000000000
side_fits spec e h = leb-true _ _ ((and_parts (list_all (is_item_over spec) e.items) (nat_le (side_bound spec e) 2000000000) h).1)

-- negated terms are of the same size, at the same levels
pub negated_small : (spec : Data) (ts : List Term) → sum_by (term_measure spec) (map negated ts) ≡ sum_by (term_measure spec) ts
negated_small spec [] = refl
negated_small spec (t ∷ ts) =
    let here = ap (λ n. n * level_bound spec t.level) (neg_size t.factor) in
    let rest = negated_small spec ts in
    omega (arith, here, rest, sum_by-cons (term_measure spec) t ts, sum_by-cons (term_measure spec) (negated t) (map negated ts))

pub negated_own : (spec : Data) (ts : List Term) → list_all (is_own_level spec) (map negated ts) ≡ list_all (is_own_level spec) ts
negated_own spec [] = refl
negated_own spec (t ∷ ts) = let rest = negated_own spec ts in cc

-- a difference is at most as great as both sides
pub less_size : (a b : ℤ) → unsigned_abs (a -ℤ b) ≤ unsigned_abs a + unsigned_abs b
less_size a b = grind (arith, ints)

difference_own : (spec : Data) (r : Reading) (l m : Expr) (op : Op) → IsTrue (is_side_over spec l) → IsTrue (is_side_over spec m) → IsTrue (list_all (is_own_level spec) (difference spec r l m op).terms)
difference_own spec r l m op hl hm =
    list_all-append (is_own_level spec) (side_terms r l) (map negated (side_terms r m))
    ∙ and_from _ _ (side_own spec r l hl) (negated_own spec (side_terms r m) ∙ side_own spec r m hm)

difference_small : (spec : Data) (r : Reading) (l m : Expr) (op : Op) → IsTrue (is_side_over spec l) → IsTrue (is_side_over spec m) → measure spec (difference spec r l m op) ≤ 4000000000
difference_small spec r l m op hl hm =
    let ls = side_terms r l in
    let ms = side_terms r m in
    let k = less_size (side_constant spec l) (side_constant spec m) in
    let terms = sum_by-append (term_measure spec) ls (map negated ms) in
    omega (arith, terms, negated_small spec ms, k, side_small spec r l, side_small spec r m, side_fits spec l hl, side_fits spec m hm)

-- the atom of a comparison
pub difference_over : (spec : Data) (r : Reading) (l m : Expr) (op : Op) → IsTrue (is_side_over spec l) → IsTrue (is_side_over spec m) → IsTrue (is_atom_over spec (difference spec r l m op))
difference_over spec r l m op hl hm =
    let small = difference_small spec r l m op hl hm in
    and_from _ _ (difference_own spec r l m op hl hm) (le-leb _ _ (omega (arith, small)))

more_size : (a : ℤ) → unsigned_abs (a +ℤ pos 1) ≤ unsigned_abs a + 1
more_size a = grind (arith, ints)

-- that of a strict one
pub one_more_over : (spec : Data) (r : Reading) (l m : Expr) (op : Op) → IsTrue (is_side_over spec l) → IsTrue (is_side_over spec m) → IsTrue (is_atom_over spec (one_more (difference spec r l m op)))
one_more_over spec r l m op hl hm =
    let a = difference spec r l m op in
    let small : unsigned_abs a.constant + sum_by (term_measure spec) a.terms ≤ 4000000000 = difference_small spec r l m op hl hm in
    let more : measure spec (one_more a) ≤ 5000000000 = omega (arith, small, more_size a.constant) in
    and_from _ _ (difference_own spec r l m op hl hm) (le-leb _ _ more)
