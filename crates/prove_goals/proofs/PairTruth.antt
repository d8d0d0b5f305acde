-- The formulas of a pair are all true exactly where the pair is related.
use Rattle.std.proofs.Common.{◌≡◌, ◌≢◌, ℕ, ℤ, pos, negsuc, ◌+ℤ◌, ◌-ℤ◌, ◌*ℤ◌, ◌≤ℤ◌, neg_ℤ, Bool, true, false, not, ◌||◌, cond, List, [], ◌∷◌, Option, Some, None, refl, sym, ap, subst, ◌∙◌, arith, IsTrue}
use Rattle.std.specs.Prelude.{int_le, nat_eq, if◌then◌else◌, IfOk, Result, Ok, Err}
use Rattle.std.specs.Ordering.{int_eq}
use Rattle.std.specs.Bool.{Decides}
use Rattle.std.specs.List.{list_all, list_any, filter, flat_map}
use Rattle.std.proofs.lemmas.Int.{ints}
use Rattle.std.proofs.lemmas.Bool.{and_parts, and_from}
use Rattle.std.proofs.lemmas.Bool.Decides.{nat_tests, Decides-at, Decides-and, Decides-not, Decides-int_eq, Decides-like}
use Rattle.std.proofs.lemmas.List.Folds.{list_all-append}
use Rattle.base.specs.declared.memory.NoMemory.{NoMemory}
use Rattle.scr_spec.specs.Data.{Data}
use Rattle.scr_spec.specs.Meaning.{Codes, code_of}
use Rattle.scr_spec.specs.Relations.{has_condition_table, meets_own, meets_relation}
use Rattle.dd_formula.specs.declared.formula.Formula.{Formula}
use Rattle.dd_formula.specs.declared.formula.Formula.TheVariants.{Not}
use Rattle.dd_formula.specs.Truth.{holds_at}
use Rattle.prove_formula.specs.Levels.{valuation_of}
use Rattle.prove_formula.specs.Events.{same_code}
use Rattle.prove_formula.specs.Tables.{own_formula, relation_formula}
use Rattle.dd_formula.proofs.FormulaLaws.{holds_at-Atom, holds_at-And}
use Rattle.prove_formula.proofs.SideTruth.{level_read}
use Rattle.dd_formula.proofs.JoinTruth.{holds_at-negation}
use Rattle.prove_formula.proofs.EventTruth.{holds_at-same_code}
use Rattle.prove_formula.proofs.TableTruth.{own_truth_ok, relation_truth_ok}
use Rattle.prove_formula.proofs.ViolationTruth.{meets_at_most}
use Rattle.scr_depend.specs.Graphs.{is_among}
use Rattle.scr_depend.specs.Dependencies.{graph_of}
use Rattle.scr_depend.specs.Orders.{IsOrder}
use Rattle.scr_depend.specs.Needs.{IsNeed}
use Rattle.scr_depend.specs.Walks.{Needs}
use Rattle.scr_depend.specs.Related.{bound_of, IsBounded, MeetsNeeds}
use Rattle.prove_goals.specs.Pairs.{at_most_above, bounded_change, need_formulas, pair_formulas, ArePairs, TellRelated}

-- a test that is another test
pub same_test : (a b : Bool) → a ≡ b → Decides a (IsTrue b)
same_test a b e = ((λ h. sym e ∙ h), (λ h. e ∙ h))

pub always : Decides true (Unit {0})
always = ((λ h. tt), (λ h. refl))

pub int_le_tells : (x y : ℤ) → Decides (int_le x y) (x ≤ℤ y)
int_le_tells x y = ((λ h. grind (arith, ints)), (λ h. grind (arith, ints)))

pub false_is_true : false ≡ true → ⊥
false_is_true e = cc

-- ---- the change

rises : (s t : Codes) (x : ℕ) (k : ℤ) → holds_at (valuation_of s t) (at_most_above true x k) ≡ int_le (code_of t x -ℤ code_of s x) k
rises s t x k =
    let z = pos 0 +ℤ pos 1 *ℤ code_of t x +ℤ negsuc 0 *ℤ code_of s x +ℤ neg_ℤ k in
    holds_at-Atom _ _ ∙ rw (level_read s t true x, level_read s t false x) (meets_at_most (code_of t x -ℤ code_of s x) k z (omega (arith, ints)))

falls : (s t : Codes) (x : ℕ) (k : ℤ) → holds_at (valuation_of s t) (at_most_above false x k) ≡ int_le (neg_ℤ k) (code_of t x -ℤ code_of s x)
falls s t x k =
    let z = pos 0 +ℤ pos 1 *ℤ code_of s x +ℤ negsuc 0 *ℤ code_of t x +ℤ neg_ℤ k in
    holds_at-Atom _ _ ∙ rw (level_read s t false x, level_read s t true x) (meets_at_most (neg_ℤ k) (code_of t x -ℤ code_of s x) z (omega (arith, ints)))

differs : (s t : Codes) (x : ℕ) → Decides (holds_at (valuation_of s t) (Not (same_code x))) (code_of t x ≢ code_of s x)
differs s t x = Decides-at _ (not (int_eq (code_of t x) (code_of s x))) (holds_at-negation _ _ _ (holds_at-same_code s t x)) (Decides-not _ (Decides-int_eq (code_of t x) (code_of s x)))

pub change_tells : (s t : Codes) (x : ℕ) (o : Option ℤ)
    → Decides (holds_at (valuation_of s t) (bounded_change x o)) ((code_of t x ≢ code_of s x) × IsBounded o (code_of t x -ℤ code_of s x))
change_tells s t x None = Decides-like _ (λ h. (h, tt)) (λ h. h.0) (differs s t x)
change_tells s t x (Some k) =
    let h = holds_at (valuation_of s t) in
    let low = Decides-at (h (at_most_above false x k)) _ (falls s t x k) (int_le_tells (neg_ℤ k) (code_of t x -ℤ code_of s x)) in
    let high = Decides-at (h (at_most_above true x k)) _ (rises s t x k) (int_le_tells (code_of t x -ℤ code_of s x) k) in
    Decides-at _ _ (holds_at-And _ _)
    (Decides-like _ (λ w. (w.0, record { falls = w.1.1.0; rises = w.1.0 })) (λ w. (w.0, (w.1.rises, (w.1.falls, tt))))
    (Decides-and _ _ (differs s t x) (Decides-and _ _ high (Decides-and _ _ low always))))

-- ---- what is needed

-- the variable meets its relation, and with a condition table has its own value in the old state
abbrev pub IsMet : Data → Codes → Codes → ℕ → Type 0
IsMet spec s t w = IsTrue (meets_relation spec w s t) × (IsTrue (has_condition_table spec w) → IsTrue (meets_own spec w s))

own_tells : (spec : Data) (s t : Codes) (w : ℕ) (b : Bool) → has_condition_table spec w ≡ b
    → Decides (list_all (holds_at (valuation_of s t)) (if b then own_formula spec w false ∷ [] else [])) (IsTrue b → IsTrue (meets_own spec w s))
own_tells spec s t w true e =
    let own = own_truth_ok spec w false (Ok (own_formula spec w false)) e refl s t in
    Decides-like _ (λ k h. k.0) (λ k. (k refl, tt)) (Decides-and _ _ (same_test _ _ own) always)
own_tells spec s t w false e = ((λ k h. absurd (false_is_true h)), (λ k. refl))

pub need_tells : (spec : Data) (s t : Codes) (w : ℕ) → Decides (list_all (holds_at (valuation_of s t)) (need_formulas spec w)) (IsMet spec s t w)
need_tells spec s t w =
    Decides-and _ _ (same_test _ _ (relation_truth_ok spec w (Ok (relation_formula spec w)) refl s t)) (own_tells spec s t w (has_condition_table spec w) refl)

-- ---- a list of those that pass

nat_same : (x w : ℕ) → nat_eq x w ≡ true → x ≡ w
nat_same x w h = grind (arith, nat_tests)

passing_first : (h : Formula → Bool) (f : ℕ → List Formula) (p : ℕ → Bool) (x w : ℕ) (ys : List ℕ) (b : Bool) → p x ≡ b → IsTrue (list_all h (flat_map f (cond b (x ∷ ys) ys)))
    → (nat_eq x w ≡ true → p w ≡ true → IsTrue (list_all h (f w))) × IsTrue (list_all h (flat_map f ys))
passing_first h f p x w ys true e k =
    let both = and_parts _ _ (sym (list_all-append h (f x) (flat_map f ys)) ∙ k) in
    ((λ same m. subst (λ z. IsTrue (list_all h (f z))) (nat_same x w same) both.0), both.1)
passing_first h f p x w ys false e k = ((λ same m. absurd (false_is_true (sym e ∙ ap p (nat_same x w same) ∙ m))), k)

-- what is true of all holds of each that passes
passing_each : (h : Formula → Bool) (f : ℕ → List Formula) (p : ℕ → Bool) (xs : List ℕ) → IsTrue (list_all h (flat_map f (filter p xs)))
    → (w : ℕ) → IsTrue (list_any (λ y. nat_eq y w) xs) → p w ≡ true → IsTrue (list_all h (f w))
passing_each h f p [] k w m pass = absurd (false_is_true m)
passing_each h f p (x ∷ xs) k w m pass =
    let first = passing_first h f p x w (filter p xs) (p x) refl k in
    elim (nat_eq x w) as (λ c. nat_eq x w ≡ c → c || list_any (λ y. nat_eq y w) xs ≡ true → IsTrue (list_all h (f w))) [
      | true ↦ λ same there. first.0 same pass
      | false ↦ λ other there. passing_each h f p xs first.1 w there pass
    ] refl m

passing_more : (h : Formula → Bool) (f : ℕ → List Formula) (p : ℕ → Bool) (x : ℕ) (ys : List ℕ) (b : Bool) → (b ≡ true → IsTrue (list_all h (f x))) → IsTrue (list_all h (flat_map f ys))
    → IsTrue (list_all h (flat_map f (cond b (x ∷ ys) ys)))
passing_more h f p x ys true here rest = list_all-append h (f x) (flat_map f ys) ∙ and_from _ _ (here refl) rest
passing_more h f p x ys false here rest = rest

-- and the other way round
passing_all : (h : Formula → Bool) (f : ℕ → List Formula) (p : ℕ → Bool) (xs : List ℕ) → ((w : ℕ) → p w ≡ true → IsTrue (list_all h (f w))) → IsTrue (list_all h (flat_map f (filter p xs)))
passing_all h f p [] each = refl
passing_all h f p (x ∷ xs) each = passing_more h f p x (filter p xs) (p x) (each x) (passing_all h f p xs each)

among_list : (xs : List ℕ) (w : ℕ) → IsTrue (is_among xs w) → IsTrue (list_any (λ y. nat_eq y w) xs)
unfolding is_among
among_list xs w h = h

-- the order has all that v needs
needs_tell : (spec : Data) (order need : List ℕ) (v : ℕ) (s t : Codes) → IsOrder (graph_of spec) order → IsNeed (graph_of spec) v need
    → Decides (list_all (holds_at (valuation_of s t)) (flat_map (need_formulas spec) (filter (is_among need) order))) (MeetsNeeds spec v s t)
needs_tell spec order need v s t ordered needed =
    let h = holds_at (valuation_of s t) in
    let f = need_formulas spec in (
      (λ k.
          let met : (w : ℕ) → Needs (graph_of spec) v w → IsMet spec s t w = λ w needs.
          (need_tells spec s t w).0 (passing_each h f (is_among need) order k w (among_list order w (ordered.whole w needs.0)) ((needed.members w).1 needs)) in
          record { related = λ w needs. (met w needs).0; own = λ w needs. (met w needs).1 }),
      (λ m. passing_all h f (is_among need) order (λ w among.
          let needs = (needed.members w).0 among in
          (need_tells spec s t w).1 (m.related w needs, m.own w needs))),
    )

-- ---- related pairs

pub pairs_tell : (spec : Data) (order need : List ℕ) (v x : ℕ) → IsOrder (graph_of spec) order → IsNeed (graph_of spec) v need → TellRelated spec v x (pair_formulas spec order need x)
pairs_tell spec order need v x ordered needed s t old new keeps =
    let tell = Decides-at _ _ (list_all-append (holds_at (valuation_of s t)) (flat_map (need_formulas spec) (filter (is_among need) order)) _)
    (Decides-and _ _ (needs_tell spec order need v s t ordered needed) (Decides-and _ _ (change_tells s t x (bound_of spec x)) always)) in (
      (λ h. let w = tell.0 h in
          record { freely = record { old_typed = old; new_typed = new; differs = w.1.0.0; others = keeps; needs = w.0 }; bounded = w.1.0.1 }),
      (λ r. tell.1 (r.freely.needs, ((r.freely.differs, r.bounded), tt))),
    )

-- the law of the call
pub related_ok : (spec : Data) (order : List ℕ) (v x : ℕ) (r : Result (List Formula) NoMemory) → IsOrder (graph_of spec) order → IfOk r (ArePairs spec order v x) → IfOk r (TellRelated spec v x)
related_ok spec order v x (Ok fs) ordered k =
    subst (TellRelated spec v x) (sym k.formulas) (pairs_tell spec order k.need v x ordered k.needed)
related_ok spec order v x (Err e) ordered k = k
