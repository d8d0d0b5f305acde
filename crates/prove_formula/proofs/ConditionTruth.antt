-- The formula of a condition is true at the valuation of two states exactly where the condition is, in one or between both.
use Rattle.std.proofs.Common.{◌≡◌, ℕ, ℤ, pos, ◌+ℤ◌, ◌-ℤ◌, ◌*ℤ◌, neg_ℤ, Bool, true, false, not, List, [], ◌∷◌, map, refl, sym, ap, subst, ◌∙◌, arith}
use Rattle.std.specs.Ordering.{int_eq}
use Rattle.std.specs.Prelude.{int_lt, int_le, IfOk, Result, Ok, Err}
use Rattle.std.proofs.lemmas.Int.{ints}
use Rattle.std.proofs.lemmas.List.Folds.{list_all-map}
use Rattle.base.specs.declared.memory.NoMemory.{NoMemory}
use Rattle.base.specs.declared.relation.Relation.{Relation}
use Rattle.base.specs.declared.relation.Relation.TheVariants.{Equal, Differ, Less, AtMost, Greater, AtLeast}
use Rattle.scr_spec.specs.Data.{Data}
use Rattle.scr_spec.specs.declared.cond.Expr.{Expr}
use Rattle.scr_spec.specs.declared.cond.Cond.{Cond, fold-Cond, ind-Cond, fold-roll-Cond}
use Rattle.scr_spec.specs.declared.cond.Cond.TheOpen as cond
use Rattle.scr_spec.specs.declared.cond.Cond.TheFolds.{map-Cond}
use Rattle.base.specs.Relations.{stands_in}
use Rattle.scr_spec.specs.Meaning.{Codes, code_of, side_value, is_true, truth_step}
use Rattle.dd_formula.proofs.Lists.{list_any-map}
use Rattle.dd_formula.specs.declared.formula.Op.TheVariants.{Eq, Le}
use Rattle.dd_formula.specs.declared.formula.Formula.{Formula}
use Rattle.dd_formula.specs.declared.formula.Formula.TheVariants.{Atom}
use Rattle.dd_formula.specs.Truth.{terms_value, holds_at}
use Rattle.prove_formula.specs.Levels.{valuation_of, at_of}
use Rattle.prove_formula.specs.declared.side.Reading.{Reading}
use Rattle.prove_formula.specs.declared.side.Reading.TheVariants.{In, Across}
use Rattle.prove_formula.specs.Sides.{plain_in_new, primed_in_new, difference, one_more}
use Rattle.prove_formula.specs.Between.{between_step, is_true_between}
use Rattle.prove_formula.specs.Conditions.{has_code, compared, condition_step, formula_read, condition_formula, pair_formula, HasTruthOf, HasTruthBetween}
use Rattle.dd_formula.proofs.FormulaLaws.{holds_at-True, holds_at-False, holds_at-Atom, holds_at-Not, holds_at-all_of, holds_at-any_of}
use Rattle.prove_formula.proofs.SideTruth.{level_read, difference_value}

-- a difference is 0 where the sides are equal
meets_equal : (x y : ℤ) → int_eq (x -ℤ y) (pos 0) ≡ int_eq x y
meets_equal x y = grind (arith, ints)

-- it is at most 0 where the left side is at most the right
meets_at_most : (x y : ℤ) → int_le (x -ℤ y) (pos 0) ≡ int_le x y
meets_at_most x y = grind (arith, ints)

-- with 1 added, where the left side is less
meets_less : (x y z k : ℤ) → z +ℤ k ≡ x -ℤ y → int_le (z +ℤ (k +ℤ pos 1)) (pos 0) ≡ int_lt x y
meets_less x y z k e = grind (arith, ints)

-- a code less a code is 0 where they are equal
meets_code : (x y : ℤ) → int_eq (pos 0 +ℤ pos 1 *ℤ x +ℤ neg_ℤ y) (pos 0) ≡ int_eq x y
meets_code x y = grind (arith, ints)

-- the value of a side whose names are read so
abbrev side_read : Data → Codes → Codes → Reading → Expr → ℤ
side_read spec old new r e = side_value spec (at_of (plain_in_new r) old new) (at_of (primed_in_new r) old new) e

-- one side is at most another, or less
holds_at-at_most : (spec : Data) (old new : Codes) (b : Reading) (l r : Expr)
    → holds_at (valuation_of old new) (Atom (difference spec b l r Le)) ≡ int_le (side_read spec old new b l) (side_read spec old new b r)
holds_at-at_most spec old new b l r = holds_at-Atom _ _ ∙ ap (λ z. int_le z (pos 0)) (difference_value spec old new b l r Le) ∙ meets_at_most (side_read spec old new b l) (side_read spec old new b r)

holds_at-less : (spec : Data) (old new : Codes) (b : Reading) (l r : Expr)
    → holds_at (valuation_of old new) (Atom (one_more (difference spec b l r Le))) ≡ int_lt (side_read spec old new b l) (side_read spec old new b r)
holds_at-less spec old new b l r =
    let a = difference spec b l r Le in
    holds_at-Atom _ _ ∙ meets_less (side_read spec old new b l) (side_read spec old new b r) (terms_value (valuation_of old new) a.terms) a.constant (difference_value spec old new b l r Le)

-- a comparison
holds_at-compared : (spec : Data) (old new : Codes) (b : Reading) (l r : Expr) (m : Relation)
    → holds_at (valuation_of old new) (compared spec b l m r) ≡ stands_in m (side_read spec old new b l) (side_read spec old new b r)
holds_at-compared spec old new b l r m =
    let x = side_read spec old new b l in
    let y = side_read spec old new b r in
    let equal : holds_at (valuation_of old new) (compared spec b l Equal r) ≡ int_eq x y
    = holds_at-Atom _ _ ∙ ap (λ z. int_eq z (pos 0)) (difference_value spec old new b l r Eq) ∙ meets_equal x y in
    elim m as (λ m. holds_at (valuation_of old new) (compared spec b l m r) ≡ stands_in m x y) [
      | Equal ↦ equal
      | Differ ↦ holds_at-Not _ _ ∙ ap not equal
      | Less ↦ holds_at-less spec old new b l r
      | AtMost ↦ holds_at-at_most spec old new b l r
      | Greater ↦ holds_at-less spec old new b r l
      | AtLeast ↦ holds_at-at_most spec old new b r l
    ]

-- a variable has a code
pub holds_at-has_code : (old new : Codes) (b : Bool) (v : ℕ) (code : ℤ) → holds_at (valuation_of old new) (has_code b v code) ≡ int_eq (code_of (at_of b old new) v) code
holds_at-has_code old new b v code =
    holds_at-Atom _ _ ∙ ap (λ z. int_eq (pos 0 +ℤ pos 1 *ℤ z +ℤ neg_ℤ code) (pos 0)) (level_read old new b v) ∙ meets_code (code_of (at_of b old new) v) code

-- what holds of each member holds of the list
mapped_list : {E X Y : Type 0} (p : E → Cond) (h : X → Y) (f : Cond → X) (g : Cond → Y) → ((e : E) → h (f (p e)) ≡ g (p e))
    → (es : List E) → map h (map f (map p es)) ≡ map g (map p es)
mapped_list p h f g same [] = refl
mapped_list p h f g same (e ∷ es) = let here = same e in let rest = mapped_list p h f g same es in cc

-- what holds of each member holds of the layer
mapped : {E X Y : Type 0} (p : E → Cond) (h : X → Y) (f : Cond → X) (g : Cond → Y) → ((e : E) → h (f (p e)) ≡ g (p e))
    → (y : cond.Cond-F E) → map-Cond X Y h (map-Cond Cond X f (map-Cond E Cond p y)) ≡ map-Cond Cond Y g (map-Cond E Cond p y)
mapped p h f g same (cond.Truth b) = refl
mapped p h f g same (cond.Holds v) = refl
mapped p h f g same (cond.Compare l r m) = refl
mapped p h f g same (cond.Not e) = ap cond.Not (same e)
mapped p h f g same (cond.And es) = ap cond.And (mapped_list p h f g same es)
mapped p h f g same (cond.Or es) = ap cond.Or (mapped_list p h f g same es)

-- where each step of one fold goes over into that of another, the folds do
folds_over : {X Y : Type 0} (f : cond.Cond-F X → X) (g : cond.Cond-F Y → Y) (h : X → Y) → ((x : cond.Cond-F X) → h (f x) ≡ g (map-Cond X Y h x)) → (c : Cond) → h (fold-Cond X f c) ≡ fold-Cond Y g c
folds_over {X} {Y} f g h same c =
    ind-Cond (λ d. h (fold-Cond X f d) ≡ fold-Cond Y g d)
    (λ x y e.
    ap h (fold-roll-Cond X f x)
    ∙ same (map-Cond Cond X (fold-Cond X f) x)
    ∙ ap g (subst (λ z. map-Cond X Y h (map-Cond Cond X (fold-Cond X f) z) ≡ map-Cond Cond Y (fold-Cond Y g) z) e (mapped (λ d. d.0) h (fold-Cond X f) (fold-Cond Y g) (λ d. d.1) y))
    ∙ sym (fold-roll-Cond Y g x))
    c

-- the step of the formula and the step of the truth say the same
same_step : (spec : Data) (old new : Codes) (r : Reading) (x : cond.Cond-F Formula)
    → holds_at (valuation_of old new) (condition_step spec r x) ≡ between_step spec (at_of (plain_in_new r) old new) (at_of (primed_in_new r) old new) (map-Cond Formula Bool (holds_at (valuation_of old new)) x)
same_step spec old new r (cond.Truth true) = holds_at-True _
same_step spec old new r (cond.Truth false) = holds_at-False _
same_step spec old new r (cond.Holds v) = holds_at-has_code old new (plain_in_new r) v (pos 1)
same_step spec old new r (cond.Compare l n m) = holds_at-compared spec old new r l m n
same_step spec old new r (cond.Not f) = holds_at-Not _ _
same_step spec old new r (cond.And fs) = holds_at-all_of _ fs ∙ sym (list_all-map (λ t. t) _ fs)
same_step spec old new r (cond.Or fs) = holds_at-any_of _ fs ∙ sym (list_any-map (λ t. t) _ fs)

-- the formula of a condition whose names are read so
holds_at-formula_read : (spec : Data) (old new : Codes) (r : Reading) (c : Cond)
    → holds_at (valuation_of old new) (formula_read spec r c) ≡ is_true_between spec (at_of (plain_in_new r) old new) (at_of (primed_in_new r) old new) c
holds_at-formula_read spec old new r c =
    folds_over (condition_step spec r) (between_step spec (at_of (plain_in_new r) old new) (at_of (primed_in_new r) old new)) (holds_at (valuation_of old new)) (same_step spec old new r) c

-- between a state and itself a condition is true where it is true in that state
step_itself : (spec : Data) (at : Codes) (x : cond.Cond-F Bool) → between_step spec at at x ≡ truth_step spec at (map-Cond Bool Bool (λ t. t) x)
step_itself spec at (cond.Truth b) = refl
step_itself spec at (cond.Holds v) = refl
step_itself spec at (cond.Compare l r m) = refl
step_itself spec at (cond.Not t) = refl
step_itself spec at (cond.And ts) = sym (list_all-map (λ t. t) (λ t. t) ts)
step_itself spec at (cond.Or ts) = sym (list_any-map (λ t. t) (λ t. t) ts)

true_itself : (spec : Data) (at : Codes) (c : Cond) → is_true_between spec at at c ≡ is_true spec at c
true_itself spec at c = folds_over (between_step spec at at) (truth_step spec at) (λ t. t) (step_itself spec at) c

-- the formula in one state, and that between two
pub holds_at-condition_formula : (spec : Data) (old new : Codes) (b : Bool) (c : Cond) → holds_at (valuation_of old new) (condition_formula spec b c) ≡ is_true spec (at_of b old new) c
holds_at-condition_formula spec old new b c = holds_at-formula_read spec old new (In b) c ∙ true_itself spec (at_of b old new) c

pub holds_at-pair_formula : (spec : Data) (old new : Codes) (c : Cond) → holds_at (valuation_of old new) (pair_formula spec c) ≡ is_true_between spec old new c
holds_at-pair_formula spec old new c = holds_at-formula_read spec old new Across c

-- a formula that equals it
truth_of : (spec : Data) (b : Bool) (c : Cond) (f : Formula) → f ≡ condition_formula spec b c → HasTruthOf spec b c f
truth_of spec b c f e old new = rw e (holds_at-condition_formula spec old new b c)

truth_between : (spec : Data) (c : Cond) (f : Formula) → f ≡ pair_formula spec c → HasTruthBetween spec c f
truth_between spec c f e old new = rw e (holds_at-pair_formula spec old new c)

-- the laws of the calls
pub truth_of_ok : (spec : Data) (b : Bool) (c : Cond) (r : Result Formula NoMemory) → IfOk r (λ f. f ≡ condition_formula spec b c) → IfOk r (λ f. HasTruthOf spec b c f)
truth_of_ok spec b c (Ok f) e = truth_of spec b c f e
truth_of_ok spec b c (Err x) e = e

pub truth_between_ok : (spec : Data) (c : Cond) (r : Result Formula NoMemory) → IfOk r (λ f. f ≡ pair_formula spec c) → IfOk r (λ f. HasTruthBetween spec c f)
truth_between_ok spec c (Ok f) e = truth_between spec c f e
truth_between_ok spec c (Err x) e = e
