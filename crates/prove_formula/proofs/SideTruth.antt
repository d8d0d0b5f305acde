-- The terms and the constant of a side together have the side's value.
use Rattle.std.proofs.Common.{◌≡◌, ℕ, ◌+◌, ◌*◌, ◌/◌, ◌%◌, ◌+ℤ◌, ◌-ℤ◌, ◌*ℤ◌, neg_ℤ, Bool, true, false, List, [], ◌∷◌, ◌++◌, map, refl, ◌∙◌, arith}
use Rattle.std.proofs.Math.IntN.{*ℤ-zero}
use Rattle.std.specs.List.{filter_map, cons_option}
use Rattle.std.proofs.lemmas.Int.{ints}
use Rattle.scr_spec.specs.Data.{Data}
use Rattle.scr_spec.specs.declared.cond.Operand.{Operand}
use Rattle.scr_spec.specs.declared.cond.Operand.TheVariants.{One, Truth as Flag, Constant, Label, Variable, Primed}
use Rattle.scr_spec.specs.declared.cond.Item.{Item}
use Rattle.scr_spec.specs.declared.cond.Expr.{Expr}
use Rattle.scr_spec.specs.Meaning.{Codes, code_of, operand_value, item_value, side_value}
use Rattle.dd_formula.specs.declared.formula.Op.{Op}
use Rattle.dd_formula.specs.declared.formula.Term.{Term}
use Rattle.dd_formula.specs.Truth.{Valuation, terms_value}
use Rattle.prove_formula.specs.declared.side.Reading.{Reading}
use Rattle.prove_formula.specs.Levels.{level_of, valuation_of, at_of}
use Rattle.prove_formula.specs.Sides.{plain_in_new, primed_in_new, term_of, fixed_value, side_terms, side_constant, negated, difference}
use Rattle.dd_formula.proofs.Totals.{total, fold_total, total-append, neg_product, term_value}

-- a level has the code of its variable in the state that is read
pub level_read : (old new : Codes) (b : Bool) (v : ℕ) → valuation_of old new (level_of b v) ≡ code_of (at_of b old new) v
level_read old new true v =
    let half : (2 * v + 1) / 2 ≡ v = omega arith in
    let odd : (2 * v + 1) % 2 ≡ 1 = omega arith in
    rw (odd, half)
level_read old new false v =
    let half : (2 * v) / 2 ≡ v = omega arith in
    let even : (2 * v) % 2 ≡ 0 = omega arith in
    rw (even, half)

-- an item adds its value to the terms or to the constant
split_one : (spec : Data) (old new : Codes) (r : Reading) (item : Item) (o : Operand) (rest : List Term)
    → total (term_value (valuation_of old new)) (cons_option (term_of r item o) rest) +ℤ item.factor *ℤ fixed_value spec o
    ≡ item.factor *ℤ operand_value spec (at_of (plain_in_new r) old new) (at_of (primed_in_new r) old new) o +ℤ total (term_value (valuation_of old new)) rest
split_one spec old new r item One rest = omega (arith, ints)
split_one spec old new r item (Flag t) rest = omega (arith, ints)
split_one spec old new r item (Constant k) rest = omega (arith, ints)
split_one spec old new r item (Label owner code) rest = omega (arith, ints)
split_one spec old new r item (Variable v) rest = rw (*ℤ-zero, level_read old new (plain_in_new r) v) (omega (arith, ints))
split_one spec old new r item (Primed v) rest = rw (*ℤ-zero, level_read old new (primed_in_new r) v) (omega (arith, ints))

split_items : (spec : Data) (old new : Codes) (r : Reading) (items : List Item)
    → total (term_value (valuation_of old new)) (filter_map (λ item. term_of r item item.operand) items) +ℤ total (λ item. item.factor *ℤ fixed_value spec item.operand) items
    ≡ total (λ item. item_value spec (at_of (plain_in_new r) old new) (at_of (primed_in_new r) old new) item) items
split_items spec old new r [] = refl
split_items spec old new r (x ∷ xs) =
    let here = split_one spec old new r x x.operand (filter_map (λ item. term_of r item item.operand) xs) in
    let rest = split_items spec old new r xs in
    omega (arith, ints, here, rest)

-- terms and constant together
pub side_sum : (spec : Data) (old new : Codes) (r : Reading) (e : Expr)
    → total (term_value (valuation_of old new)) (side_terms r e) +ℤ side_constant spec e ≡ side_value spec (at_of (plain_in_new r) old new) (at_of (primed_in_new r) old new) e
side_sum spec old new r e =
    let f = λ (item : Item). item_value spec (at_of (plain_in_new r) old new) (at_of (primed_in_new r) old new) item in
    let g = λ (item : Item). item.factor *ℤ fixed_value spec item.operand in
    omega (arith, ints, fold_total g e.items, fold_total f e.items, split_items spec old new r e.items)

-- negated factors negate the sum
pub total-negated : (val : Valuation) (ts : List Term) → total (term_value val) (map negated ts) ≡ neg_ℤ (total (term_value val) ts)
total-negated val [] = refl
total-negated val (t ∷ ts) = let rest = total-negated val ts in rw neg_product (omega (arith, ints, rest))

-- the left side less the right
pub difference_value : (spec : Data) (old new : Codes) (r : Reading) (l m : Expr) (op : Op)
    → terms_value (valuation_of old new) ((difference spec r l m op).terms) +ℤ (difference spec r l m op).constant
    ≡ side_value spec (at_of (plain_in_new r) old new) (at_of (primed_in_new r) old new) l -ℤ side_value spec (at_of (plain_in_new r) old new) (at_of (primed_in_new r) old new) m
difference_value spec old new r l m op =
    let val = valuation_of old new in
    let ls = side_terms r l in
    let ms = side_terms r m in
    let t : terms_value val (ls ++ map negated ms) ≡ total (term_value val) ls +ℤ total (term_value val) (map negated ms)
    = fold_total (term_value val) (ls ++ map negated ms) ∙ total-append (term_value val) ls (map negated ms) in
    omega (arith, ints, t, total-negated val ms, side_sum spec old new r l, side_sum spec old new r m)
