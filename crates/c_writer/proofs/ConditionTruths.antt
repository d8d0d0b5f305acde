-- The expression of a condition has the condition's truth.
use Rattle.std.proofs.Common.{◌≡◌, ℕ, ◌<◌, ℤ, pos, Bool, true, false, cond, not, ◌&&◌, ◌||◌, List, [], ◌∷◌, map, length, Option, Some, None, inl, inr, refl, sym, ap, subst, ◌∙◌, arith, IsTrue}
use Rattle.std.specs.Prelude.{nat_lt}
use Rattle.std.specs.Option.{option_map_or, option_map, option_and_then}
use Rattle.std.specs.Ordering.{int_eq}
use Rattle.std.specs.Prelude.{slice_get}
use Rattle.std.specs.List.{list_all, list_any, AllByRecursion as Each}
use Rattle.std.proofs.lemmas.Bool.{and_parts, ltb-true, eq-eqb, or_left, or_right, or_cases, false≢true}
use Rattle.std.proofs.lemmas.Int.{ints}
use Rattle.base.specs.declared.relation.Relation.{Relation}
use Rattle.base.specs.declared.relation.Relation.TheVariants.{Equal, Differ}
use Rattle.scr_spec.specs.Data.{Data}
use Rattle.dd_formula.specs.declared.domain.Domain.{Domain}
use Rattle.scr_spec.specs.declared.spec.Kind.{Kind}
use Rattle.scr_spec.specs.declared.spec.Kind.TheVariants as kind
use Rattle.scr_spec.specs.declared.spec.Variable.{Variable as Declared}
use Rattle.scr_spec.specs.declared.sort.Sort.TheVariants as sort
use Rattle.scr_spec.specs.declared.cond.Owner.TheVariants as owner
use Rattle.scr_spec.specs.declared.cond.Operand.{Operand}
use Rattle.scr_spec.specs.declared.cond.Operand.TheVariants as operand
use Rattle.scr_spec.specs.declared.cond.Item.{Item}
use Rattle.scr_spec.specs.declared.cond.Expr.{Expr}
use Rattle.scr_spec.specs.declared.cond.Cond.{Cond, ind-Cond, roll-Cond, fold-roll-Cond}
use Rattle.scr_spec.specs.declared.cond.Cond.TheOpen as layer
use Rattle.scr_spec.specs.declared.cond.Cond.TheFolds.{map-Cond}
use Rattle.scr_spec.specs.Sorts.{same_sort, is_sort, type_range, kind_sort, variable_sort}
use Rattle.base.specs.Relations.{stands_in}
use Rattle.scr_spec.specs.Meaning.{Codes, code_of, side_value, truth_step, is_true}
use Rattle.scr_spec.specs.Domains.{IsWithin, IsTyped, kind_domain, domain_of, no_domain}
use Rattle.scr_spec.specs.Typed.{typed_step, is_cond_typed}
use Rattle.scr_spec.specs.Over.{is_operand_over, is_item_over, is_side_over, over_step, is_cond_over}
use Rattle.scr_depend.specs.Reads.{operand_names, operand_primes, item_names, item_primes, side_names, side_primes, names_step, cond_names}
use Rattle.c_subset.specs.declared.expr.CExpr.{CExpr}
use Rattle.c_subset.specs.declared.expr.CExpr.TheVariants.{Constant, Name, Relate}
use Rattle.c_subset.specs.Meaning.{Objects, Names, name_value, relates, all_true, some_true, number_of, truth_of}
use Rattle.c_writer.specs.Sides.{side_expr}
use Rattle.c_writer.specs.Conditions.{truth_expr, cond_step, cond_expr}
use Rattle.c_writer.proofs.Meanings.{number_of-Constant, number_of-Name, truth_of-Not, truth_of-Relate, truth_of-And, truth_of-Or}
use Rattle.c_writer.proofs.SideNumbers.{OperandShown, side_number}

-- ---- relations

pub relate_truth : (names : Names) (row : Objects) (l : CExpr) (m : Relation) (r : CExpr) (x y : ℤ) → number_of names row l ≡ Some x → number_of names row r ≡ Some y
    → truth_of names row (Relate l m r) ≡ Some (stands_in m x y)
relate_truth names row l m r x y e f =
    truth_of-Relate names row l m r ∙ ap (λ o. relates m o (number_of names row r)) e ∙ ap (relates m (Some x)) f

pub truth_truth : (names : Names) (row : Objects) (b : Bool) → truth_of names row (truth_expr b) ≡ Some b
truth_truth names row true = relate_truth names row (Constant (pos 0)) Equal (Constant (pos 0)) (pos 0) (pos 0) (number_of-Constant names row (pos 0)) (number_of-Constant names row (pos 0))
truth_truth names row false = relate_truth names row (Constant (pos 0)) Differ (Constant (pos 0)) (pos 0) (pos 0) (number_of-Constant names row (pos 0)) (number_of-Constant names row (pos 0))

-- ---- Boolean variables

abbrev truths : Domain
truths = record { lo = pos 0; hi = pos 1 }

named_no : (n : ℕ) (o : Option Domain) → same_sort sort.Boolean (option_map_or (λ d. sort.Integer) o (sort.Labels (owner.Named n))) ≡ true → ⊥
named_no n None h = false≢true h
named_no n (Some d) h = false≢true h

boolean_kind : (spec : Data) (v : ℕ) (k : Kind) → same_sort sort.Boolean (kind_sort spec.types v k) ≡ true → kind_domain spec.types k ≡ truths
boolean_kind spec v kind.Boolean h = refl
boolean_kind spec v (kind.Named n) h = absurd (named_no n (type_range spec.types n) h)
boolean_kind spec v (kind.Modes names) h = absurd (false≢true h)

boolean_at : (spec : Data) (v : ℕ) (o : Option Declared) → is_sort sort.Boolean (option_map (λ x. kind_sort spec.types v x.kind) o) ≡ true → option_map_or (λ x. kind_domain spec.types x.kind) o no_domain ≡ truths
boolean_at spec v None h = absurd (false≢true h)
boolean_at spec v (Some x) h = boolean_kind spec v x.kind h

boolean_domain : (spec : Data) (v : ℕ) → IsTrue (is_sort sort.Boolean (variable_sort spec.types spec.variables v)) → domain_of spec v ≡ truths
boolean_domain spec v h = boolean_at spec v (slice_get spec.variables v) h

-- a truth is not 0 where it is 1
truth_not_zero : (z : ℤ) → IsWithin truths z → not (int_eq z (pos 0)) ≡ int_eq z (pos 1)
truth_not_zero z h = grind (arith, ints)

-- ---- the objects of what a side names have its codes

pub any_imply : {X : Type 0} (p q : X → Bool) → ((x : X) → p x ≡ true → q x ≡ true) → (xs : List X) → list_any p xs ≡ true → list_any q xs ≡ true
any_imply p q f [] h = absurd (false≢true h)
any_imply p q f (x ∷ xs) h = elim (or_cases (p x) (list_any p xs) h) [ inl k ↦ or_left _ _ (f x k) | inr k ↦ or_right _ _ (any_imply p q f xs k) ]

primed_named : (w : ℕ) (o : Operand) → operand_primes w o ≡ true → operand_names w o ≡ true
primed_named w operand.One h = h
primed_named w (operand.Truth b) h = h
primed_named w (operand.Constant k) h = h
primed_named w (operand.Label owner code) h = h
primed_named w (operand.Variable v) h = absurd (false≢true h)
primed_named w (operand.Primed v) h = h

pub side_primed_named : (w : ℕ) (e : Expr) → IsTrue (side_primes w e) → IsTrue (side_names w e)
side_primed_named w e h = any_imply (item_primes w) (item_names w) (λ i. primed_named w i.operand) e.items h

-- these variables have their objects
abbrev pub AreShown : Names → Objects → Data → (ℕ → List ℕ) → Codes → (ℕ → Bool) → Type 0
AreShown names row spec object at named = (w : ℕ) → w < length spec.variables → IsTrue (named w) → name_value names row (object w) ≡ Some (code_of at w)

operand_shown : (names : Names) (row : Objects) (spec : Data) (plain primed : ℕ → List ℕ) (old new : Codes) (o : Operand) → IsTrue (is_operand_over spec o)
    → AreShown names row spec plain old (λ w. operand_names w o) → AreShown names row spec primed new (λ w. operand_primes w o) → OperandShown names row spec plain primed old new o
operand_shown names row spec plain primed old new operand.One over p q = tt
operand_shown names row spec plain primed old new (operand.Truth b) over p q = tt
operand_shown names row spec plain primed old new (operand.Constant k) over p q = tt
operand_shown names row spec plain primed old new (operand.Label owner code) over p q = tt
operand_shown names row spec plain primed old new (operand.Variable v) over p q = p v (ltb-true _ _ over) (eq-eqb v v refl)
operand_shown names row spec plain primed old new (operand.Primed v) over p q = q v (ltb-true _ _ over) (eq-eqb v v refl)

items_shown : (names : Names) (row : Objects) (spec : Data) (plain primed : ℕ → List ℕ) (old new : Codes) (items : List Item) → IsTrue (list_all (is_item_over spec) items)
    → AreShown names row spec plain old (λ w. list_any (item_names w) items) → AreShown names row spec primed new (λ w. list_any (item_primes w) items)
    → Each (λ (i : Item). OperandShown names row spec plain primed old new i.operand) items
items_shown names row spec plain primed old new [] over p q = tt
items_shown names row spec plain primed old new (i ∷ is) over p q =
    let both = and_parts (is_item_over spec i) (list_all (is_item_over spec) is) over in
    let item = and_parts (is_operand_over spec i.operand) _ (both.0) in (
      operand_shown names row spec plain primed old new i.operand item.0 (λ w lt h. p w lt (or_left _ _ h)) (λ w lt h. q w lt (or_left _ _ h)),
      items_shown names row spec plain primed old new is both.1 (λ w lt h. p w lt (or_right _ _ h)) (λ w lt h. q w lt (or_right _ _ h)),
    )

-- the number of a side
pub side_value_number : (names : Names) (row : Objects) (spec : Data) (plain primed : ℕ → List ℕ) (old new : Codes) (e : Expr) → IsTyped spec old → IsTyped spec new → IsTrue (is_side_over spec e)
    → AreShown names row spec plain old (λ w. side_names w e) → AreShown names row spec primed new (λ w. side_primes w e)
    → number_of names row (side_expr spec plain primed e) ≡ Some (side_value spec old new e)
side_value_number names row spec plain primed old new e t u over p q =
    let both = and_parts (list_all (is_item_over spec) e.items) _ over in
    side_number names row spec plain primed old new e t u over (items_shown names row spec plain primed old new e.items both.0 p q)

-- ---- conditions

-- what is asked of a condition
pub record IsReady (names : Names) (row : Objects) (spec : Data) (object : ℕ → List ℕ) (at : Codes) (c : Cond) : Type 0 where
  pub over : IsTrue (is_cond_over spec c)
  pub typed : IsTrue (is_cond_typed spec c)
  pub shown : AreShown names row spec object at (λ w. cond_names w c)

-- the same of a layer
record IsLayerReady (names : Names) (row : Objects) (spec : Data) (object : ℕ → List ℕ) (at : Codes) (x : layer.Cond-F Cond) : Type 0 where
  over : IsTrue (over_step spec (map-Cond Cond Bool (is_cond_over spec) x))
  typed : IsTrue (typed_step spec (map-Cond Cond Bool (is_cond_typed spec) x))
  shown : AreShown names row spec object at (λ w. names_step w (map-Cond Cond Bool (cond_names w) x))

ready_layer : (names : Names) (row : Objects) (spec : Data) (object : ℕ → List ℕ) (at : Codes) (x : layer.Cond-F Cond) → IsReady names row spec object at (roll-Cond x) → IsLayerReady names row spec object at x
ready_layer names row spec object at x r = record {
  over = sym (fold-roll-Cond Bool (over_step spec) x) ∙ r.over;
  typed = sym (fold-roll-Cond Bool (typed_step spec) x) ∙ r.typed;
  shown = λ w lt h. r.shown w lt (fold-roll-Cond Bool (names_step w) x ∙ h);
}

-- the expression has the truth
abbrev HasTruth : Names → Objects → Data → (ℕ → List ℕ) → Codes → Cond → Type 0
HasTruth names row spec object at c = IsReady names row spec object at c → truth_of names row (cond_expr spec object c) ≡ Some (is_true spec at c)

all_step : (b r : Bool) (o : Option Bool) → o ≡ Some r → cond b o (Some false) ≡ Some (b && r)
all_step true r o e = e
all_step false r o e = refl

pub some_step : (b r : Bool) (o : Option Bool) → o ≡ Some r → cond b (Some true) o ≡ Some (b || r)
some_step true r o e = refl
some_step false r o e = e

all_members : {E : Type 0} (p : E → Cond) (names : Names) (row : Objects) (spec : Data) (object : ℕ → List ℕ) (at : Codes) → ((e : E) → HasTruth names row spec object at (p e)) → (es : List E)
    → IsTrue (list_all (λ t. t) (map (is_cond_over spec) (map p es))) → IsTrue (list_all (λ t. t) (map (is_cond_typed spec) (map p es)))
    → AreShown names row spec object at (λ w. list_any (λ t. t) (map (cond_names w) (map p es)))
    → all_true (map (truth_of names row) (map (cond_expr spec object) (map p es))) ≡ Some (list_all (λ t. t) (map (is_true spec at) (map p es)))
all_members p names row spec object at each [] over typed shown = refl
all_members p names row spec object at each (e ∷ es) over typed shown =
    let o = and_parts (is_cond_over spec (p e)) (list_all (λ t. t) (map (is_cond_over spec) (map p es))) over in
    let t = and_parts (is_cond_typed spec (p e)) (list_all (λ t. t) (map (is_cond_typed spec) (map p es))) typed in
    let here = each e (record { over = o.0; typed = t.0; shown = λ w lt h. shown w lt (or_left _ _ h) }) in
    let rest = all_members p names row spec object at each es o.1 t.1 (λ w lt h. shown w lt (or_right _ _ h)) in
    ap (option_and_then (λ b. cond b (all_true (map (truth_of names row) (map (cond_expr spec object) (map p es)))) (Some false))) here
    ∙ all_step (is_true spec at (p e)) (list_all (λ t. t) (map (is_true spec at) (map p es))) _ rest

some_members : {E : Type 0} (p : E → Cond) (names : Names) (row : Objects) (spec : Data) (object : ℕ → List ℕ) (at : Codes) → ((e : E) → HasTruth names row spec object at (p e)) → (es : List E)
    → IsTrue (list_all (λ t. t) (map (is_cond_over spec) (map p es))) → IsTrue (list_all (λ t. t) (map (is_cond_typed spec) (map p es)))
    → AreShown names row spec object at (λ w. list_any (λ t. t) (map (cond_names w) (map p es)))
    → some_true (map (truth_of names row) (map (cond_expr spec object) (map p es))) ≡ Some (list_any (λ t. t) (map (is_true spec at) (map p es)))
some_members p names row spec object at each [] over typed shown = refl
some_members p names row spec object at each (e ∷ es) over typed shown =
    let o = and_parts (is_cond_over spec (p e)) (list_all (λ t. t) (map (is_cond_over spec) (map p es))) over in
    let t = and_parts (is_cond_typed spec (p e)) (list_all (λ t. t) (map (is_cond_typed spec) (map p es))) typed in
    let here = each e (record { over = o.0; typed = t.0; shown = λ w lt h. shown w lt (or_left _ _ h) }) in
    let rest = some_members p names row spec object at each es o.1 t.1 (λ w lt h. shown w lt (or_right _ _ h)) in
    ap (option_and_then (λ b. cond b (Some true) (some_true (map (truth_of names row) (map (cond_expr spec object) (map p es)))))) here
    ∙ some_step (is_true spec at (p e)) (list_any (λ t. t) (map (is_true spec at) (map p es))) _ rest

holds_truth : (names : Names) (row : Objects) (spec : Data) (object : ℕ → List ℕ) (at : Codes) (v : ℕ) → IsTyped spec at → IsTrue (nat_lt v (length spec.variables))
    → IsTrue (is_sort sort.Boolean (variable_sort spec.types spec.variables v)) → name_value names row (object v) ≡ Some (code_of at v)
    → truth_of names row (Relate (Name (object v)) Differ (Constant (pos 0))) ≡ Some (int_eq (code_of at v) (pos 1))
holds_truth names row spec object at v typed over boolean e =
    let within = subst (λ d. IsWithin d (code_of at v)) (boolean_domain spec v boolean) (typed.within v (ltb-true _ _ over)) in
    relate_truth names row (Name (object v)) Differ (Constant (pos 0)) (code_of at v) (pos 0) (number_of-Name names row (object v) ∙ e) (number_of-Constant names row (pos 0))
    ∙ ap (λ b. Some b) (truth_not_zero (code_of at v) within)

compare_truth : (names : Names) (row : Objects) (spec : Data) (object : ℕ → List ℕ) (at : Codes) (l : Expr) (m : Relation) (r : Expr) → IsTyped spec at → IsTrue (is_side_over spec l && is_side_over spec r)
    → AreShown names row spec object at (λ w. side_names w l || side_names w r)
    → truth_of names row (Relate (side_expr spec object object l) m (side_expr spec object object r)) ≡ Some (stands_in m (side_value spec at at l) (side_value spec at at r))
compare_truth names row spec object at l m r typed over shown =
    let both = and_parts (is_side_over spec l) (is_side_over spec r) over in
    relate_truth names row (side_expr spec object object l) m (side_expr spec object object r) (side_value spec at at l) (side_value spec at at r)
    (side_value_number names row spec object object at at l typed typed both.0 (λ w lt h. shown w lt (or_left _ _ h)) (λ w lt h. shown w lt (or_left _ _ (side_primed_named w l h))))
    (side_value_number names row spec object object at at r typed typed both.1 (λ w lt h. shown w lt (or_right _ _ h)) (λ w lt h. shown w lt (or_right _ _ (side_primed_named w r h))))

layer_truth : {E : Type 0} (p : E → Cond) (names : Names) (row : Objects) (spec : Data) (object : ℕ → List ℕ) (at : Codes) → IsTyped spec at → ((e : E) → HasTruth names row spec object at (p e))
    → (y : layer.Cond-F E) → IsLayerReady names row spec object at (map-Cond E Cond p y)
    → truth_of names row (cond_step spec object (map-Cond Cond CExpr (cond_expr spec object) (map-Cond E Cond p y))) ≡ Some (truth_step spec at (map-Cond Cond Bool (is_true spec at) (map-Cond E Cond p y)))
layer_truth p names row spec object at typed each (layer.Truth b) r = truth_truth names row b
layer_truth p names row spec object at typed each (layer.Holds v) r = holds_truth names row spec object at v typed r.over r.typed (r.shown v (ltb-true _ _ r.over) (eq-eqb v v refl))
layer_truth p names row spec object at typed each (layer.Compare l m q) r = compare_truth names row spec object at l m q typed r.over r.shown
layer_truth p names row spec object at typed each (layer.Not e) r =
    truth_of-Not names row (cond_expr spec object (p e)) ∙ ap (option_map not) (each e (record { over = r.over; typed = r.typed; shown = r.shown }))
layer_truth p names row spec object at typed each (layer.And es) r =
    truth_of-And names row (map (cond_expr spec object) (map p es)) ∙ all_members p names row spec object at each es r.over r.typed r.shown
layer_truth p names row spec object at typed each (layer.Or es) r =
    truth_of-Or names row (map (cond_expr spec object) (map p es)) ∙ some_members p names row spec object at each es r.over r.typed r.shown

abbrev LayerHasTruth : Names → Objects → Data → (ℕ → List ℕ) → Codes → layer.Cond-F Cond → Type 0
LayerHasTruth names row spec object at x =
    IsLayerReady names row spec object at x
    → truth_of names row (cond_step spec object (map-Cond Cond CExpr (cond_expr spec object) x)) ≡ Some (truth_step spec at (map-Cond Cond Bool (is_true spec at) x))

pub cond_truth : (names : Names) (row : Objects) (spec : Data) (object : ℕ → List ℕ) (at : Codes) → IsTyped spec at → (c : Cond) → IsReady names row spec object at c
    → truth_of names row (cond_expr spec object c) ≡ Some (is_true spec at c)
cond_truth names row spec object at typed c =
    ind-Cond (λ d. HasTruth names row spec object at d)
    (λ x y e r.
    ap (truth_of names row) (fold-roll-Cond CExpr (cond_step spec object) x)
    ∙ subst (LayerHasTruth names row spec object at) e (layer_truth (λ d. d.0) names row spec object at typed (λ d. d.1) y) (ready_layer names row spec object at x r)
    ∙ ap (λ b. Some b) (sym (fold-roll-Cond Bool (truth_step spec at) x)))
    c
