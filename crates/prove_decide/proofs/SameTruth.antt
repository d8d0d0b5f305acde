-- A formula has the same truth at two valuations that give each level that occurs in it the same code.
use Rattle.std.proofs.Common.{◌≡◌, ℕ, ◌+ℤ◌, ◌*ℤ◌, Bool, true, false, ◌||◌, List, [], ◌∷◌, map, refl, sym, ap, ap₂, subst, ◌∙◌, arith}
use Rattle.std.specs.Prelude.{◌==◌}
use Rattle.std.specs.List.{list_any}
use Rattle.dd_formula.specs.declared.formula.Term.{Term}
use Rattle.dd_formula.specs.declared.formula.Formula.{Formula, ind-Formula, fold-roll-Formula}
use Rattle.dd_formula.specs.declared.formula.Formula.TheOpen as layer
use Rattle.dd_formula.specs.declared.formula.Formula.TheFolds.{map-Formula}
use Rattle.dd_formula.specs.Truth.{Valuation, terms_value, meets_zero, holds_at, holds_step}
use Rattle.dd_formula.proofs.Totals.{total, term_value, fold_total}
use Rattle.prove_decide.specs.Readings.{occurs, occurs_step}

or_left : (a b : Bool) → a ≡ true → (a || b) ≡ true
or_left a b e = ap (λ c. c || b) e

or_right : (a b : Bool) → b ≡ true → (a || b) ≡ true
or_right true b e = refl
or_right false b e = e

own_level : (n : ℕ) → (n == n) ≡ true
own_level n = grind arith

module _ (val other : Valuation) where
  -- of the members of a list where the codes agree
  abbrev Agrees : (ℕ → Bool) → Type 0
  Agrees there = (l : ℕ) → there l ≡ true → val l ≡ other l

  total_same : (ts : List Term) → Agrees (λ l. list_any (λ t. t.level == l) ts) → total (term_value val) ts ≡ total (term_value other) ts
  total_same [] same = refl
  total_same (t ∷ ts) same =
      let here : val t.level ≡ other t.level = same t.level (or_left (t.level == t.level) (list_any (λ u. u.level == t.level) ts) (own_level t.level)) in
      ap (λ z. t.factor *ℤ z +ℤ total (term_value val) ts) here
      ∙ ap (λ z. term_value other t +ℤ z) (total_same ts (λ l there. same l (or_right (t.level == l) (list_any (λ u. u.level == l) ts) there)))

  terms_same : (ts : List Term) → Agrees (λ l. list_any (λ t. t.level == l) ts) → terms_value val ts ≡ terms_value other ts
  terms_same ts same = fold_total (term_value val) ts ∙ total_same ts same ∙ sym (fold_total (term_value other) ts)

  abbrev Same : Formula → Type 0
  Same f = Agrees (λ l. occurs l f) → holds_at val f ≡ holds_at other f

  same_members : {E : Type 0} (f : E → Formula) → ((e : E) → Same (f e)) → (es : List E) → Agrees (λ l. list_any (λ b. b) (map (occurs l) (map f es)))
      → map (holds_at val) (map f es) ≡ map (holds_at other) (map f es)
  same_members f each [] same = refl
  same_members f each (e ∷ es) same =
      ap₂ (λ b bs. b ∷ bs)
      (each e (λ l there. same l (or_left (occurs l (f e)) (list_any (λ b. b) (map (occurs l) (map f es))) there)))
      (same_members f each es (λ l there. same l (or_right (occurs l (f e)) (list_any (λ b. b) (map (occurs l) (map f es))) there)))

  same_layer : {E : Type 0} (f : E → Formula) → ((e : E) → Same (f e)) → (y : layer.Formula-F E) → Agrees (λ l. occurs_step l (map-Formula Formula Bool (occurs l) (map-Formula E Formula f y)))
      → holds_step val (map-Formula Formula Bool (holds_at val) (map-Formula E Formula f y)) ≡ holds_step other (map-Formula Formula Bool (holds_at other) (map-Formula E Formula f y))
  same_layer f each layer.True same = refl
  same_layer f each layer.False same = refl
  same_layer f each (layer.Atom a) same = ap (λ z. meets_zero a.op (z +ℤ a.constant)) (terms_same a.terms same)
  same_layer f each (layer.Not e) same = ap (λ b. holds_step val (layer.Not b)) (each e same)
  same_layer f each (layer.And es) same = ap (λ bs. holds_step val (layer.And bs)) (same_members f each es same)
  same_layer f each (layer.Or es) same = ap (λ bs. holds_step val (layer.Or bs)) (same_members f each es same)

  pub same_where_occurs : (f : Formula) → Agrees (λ l. occurs l f) → holds_at val f ≡ holds_at other f
  same_where_occurs f =
      ind-Formula Same
      (λ x y e same.
      fold-roll-Formula Bool (holds_step val) x
      ∙ subst (λ z. Agrees (λ l. occurs_step l (map-Formula Formula Bool (occurs l) z)) → holds_step val (map-Formula Formula Bool (holds_at val) z) ≡ holds_step other (map-Formula Formula Bool (holds_at other) z)) e
      (same_layer (λ d. d.0) (λ d. d.1) y) (λ l there. same l (fold-roll-Formula Bool (occurs_step l) x ∙ there))
      ∙ sym (fold-roll-Formula Bool (holds_step other) x))
      f

-- so where each level has the same code
pub same_truth : (val other : Valuation) → ((l : ℕ) → val l ≡ other l) → (f : Formula) → holds_at val f ≡ holds_at other f
same_truth val other same f = same_where_occurs val other f (λ l there. same l)
