-- Numbers of a store have distinct trees.
use Rattle.std.proofs.Common.{◌≡◌, ◌⊎◌, ℕ, zero, suc, ◌<◌, ◌≤◌, Bool, true, false, ◌&&◌, ◌||◌, eqb, List, [], ◌∷◌, ◌++◌, length, get_or, map, refl, sym, ap, ap₂, ◌∙◌, inl, inr, ⊎_elim, arith, true≢false}
use Rattle.std.proofs.lemmas.Bool.{eq-eqb, ne_eqb, cases_Bool, cases_lt, or_parts}
use Rattle.std.proofs.lemmas.List.{get_or_append_left, get_or_push, length_push}
use Rattle.std.specs.List.{list_any, list_all, AllByRecursion}
use Rattle.dd_tree.specs.Tree.{Tree, leaf, tree_eq, all_same}
use Rattle.dd_tree.proofs.Equal.{eq_trees, tree_eq-itself}
use Rattle.dd_store.specs.Held.{sizes, Node, Held, at, tree_in, trees_from, leaves, trees}
use Rattle.dd_store.specs.Kept.{AreNodes, IsHeld}

-- no tree stands at two places
pub record AreDistinct (ts : List Tree) : Type 0 where
  pub one : (i j : ℕ) → i < length ts → j < length ts → at ts i ≡ at ts j → i ≡ j

-- a tree that no test finds is at no number
pub not_at : (ts : List Tree) (t : Tree) (i : ℕ) → list_any (tree_eq t) ts ≡ false → i < length ts → at ts i ≡ t → ⊥
not_at [] t i h lt e = omega arith
not_at (u ∷ us) t zero h lt e = true≢false (sym (tree_eq-itself t) ∙ ap (tree_eq t) (sym e) ∙ (or_parts _ _ h).0)
not_at (u ∷ us) t (suc i) h lt e = not_at us t i (or_parts _ _ h).1 (omega arith) e

-- and one that is at no number is not found
pub found_nowhere : (ts : List Tree) (t : Tree) → ((i : ℕ) → i < length ts → at ts i ≡ t → ⊥) → list_any (tree_eq t) ts ≡ false
found_nowhere [] t h = refl
found_nowhere (u ∷ us) t h = by (tree_eq t u) refl (found_nowhere us t (λ i lt. h (suc i) (omega arith)))
  where
    by : (b : Bool) → tree_eq t u ≡ b → list_any (tree_eq t) us ≡ false → (b || list_any (tree_eq t) us) ≡ false
    by true q r = absurd (h 0 (omega arith) (sym (eq_trees t u q)))
    by false q r = r

-- a tree that is at a number is found
pub found_at : (ts : List Tree) (i : ℕ) → i < length ts → list_any (tree_eq (at ts i)) ts ≡ true
found_at ts i lt = ⊎_elim (λ e. e) (λ e. absurd (not_at ts (at ts i) i e lt refl)) (cases_Bool (list_any (tree_eq (at ts i)) ts))

-- a new tree may be last
pub AreDistinct-push : (ts : List Tree) (t : Tree) → AreDistinct ts → list_any (tree_eq t) ts ≡ false → AreDistinct (ts ++ t ∷ [])
AreDistinct-push ts t d fresh = record {
  one = λ i j hi hj e. by i j hi hj e (cases_lt i (length ts)) (cases_lt j (length ts));
}
  where
    old : (i : ℕ) → i < length ts → at (ts ++ t ∷ []) i ≡ at ts i
    old i h = get_or_append_left ts (t ∷ []) (leaf false) i h

    last : (i : ℕ) → length ts ≤ i → i < length (ts ++ t ∷ []) → i ≡ length ts
    last i h k = omega (arith, length_push ts t)

    new : (i : ℕ) → i ≡ length ts → at (ts ++ t ∷ []) i ≡ t
    new i e = get_or_push ts t (leaf false) i (sym e)

    by : (i j : ℕ) → i < length (ts ++ t ∷ []) → j < length (ts ++ t ∷ []) → at (ts ++ t ∷ []) i ≡ at (ts ++ t ∷ []) j
        → (i < length ts) ⊎ (length ts ≤ i) → (j < length ts) ⊎ (length ts ≤ j) → i ≡ j
    by i j hi hj e (inl a) (inl b) = d.one i j a b (sym (old i a) ∙ e ∙ old j b)
    by i j hi hj e (inl a) (inr b) = absurd (not_at ts t i fresh a (sym (old i a) ∙ e ∙ new j (last j b hj)))
    by i j hi hj e (inr a) (inl b) = absurd (not_at ts t j fresh b (sym (old j b) ∙ sym e ∙ new i (last i a hi)))
    by i j hi hj e (inr a) (inr b) = last i a hi ∙ sym (last j b hj)

-- the trees of nodes are distinct
pub AreDistinct-trees_from : (sizes : List ℕ) (ts : List Tree) (ns : List Node) → AreDistinct ts → AreNodes sizes ts ns → AreDistinct (trees_from ts ns)
AreDistinct-trees_from sizes ts [] d h = d
AreDistinct-trees_from sizes ts (n ∷ ns) d h = AreDistinct-trees_from sizes (ts ++ tree_in ts n ∷ []) ns (AreDistinct-push ts (tree_in ts n) d h.0.fresh) h.1

-- no trees are distinct
no_trees : AreDistinct []
no_trees = record { one = λ i j hi hj e. absurd (omega arith) }

-- and so are the leaves
pub AreDistinct-leaves : AreDistinct leaves
AreDistinct-leaves = AreDistinct-push (leaf false ∷ []) (leaf true) (AreDistinct-push [] (leaf false) no_trees refl) refl

-- in a store, distinct numbers have distinct trees
pub AreDistinct-trees : (held : Held) → IsHeld held → AreDistinct (trees held)
unfolding trees
AreDistinct-trees held h = AreDistinct-trees_from (sizes held) leaves held.nodes AreDistinct-leaves h.nodes

-- lists of numbers with the same trees are the same
pub same_numbers : (ts : List Tree) → AreDistinct ts → (cs ds : List ℕ) → AllByRecursion (λ c. c < length ts) cs → AllByRecursion (λ c. c < length ts) ds
    → map (at ts) cs ≡ map (at ts) ds → cs ≡ ds
same_numbers ts d [] [] hc hd e = refl
same_numbers ts d [] (y ∷ ys) hc hd e = cc
same_numbers ts d (x ∷ xs) [] hc hd e = cc
same_numbers ts d (x ∷ xs) (y ∷ ys) hc hd e =
    let heads : at ts x ≡ at ts y = cc in
    let tails : map (at ts) xs ≡ map (at ts) ys = cc in
    ap₂ (λ a as'. a ∷ as') (d.one x y hc.0 hd.0 heads) (same_numbers ts d xs ys hc.1 hd.1 tails)

-- equal numbers are equal trees
one_test : (ts : List Tree) → AreDistinct ts → (c h : ℕ) → c < length ts → h < length ts → eqb c h ≡ tree_eq (at ts h) (at ts c)
one_test ts d c h hc hh = by (tree_eq (at ts h) (at ts c)) refl
  where
    by : (b : Bool) → tree_eq (at ts h) (at ts c) ≡ b → eqb c h ≡ b
    by true q = eq-eqb c h (d.one c h hc hh (sym (eq_trees _ _ q)))
    by false q = ne_eqb c h (λ e. true≢false (sym (tree_eq-itself (at ts h)) ∙ ap (λ i. tree_eq (at ts h) (at ts i)) (sym e) ∙ q))

-- and so along a list
all_tests : (ts : List Tree) → AreDistinct ts → (h : ℕ) → h < length ts → (cs : List ℕ) → AllByRecursion (λ c. c < length ts) cs
    → list_all (λ c. eqb c h) cs ≡ list_all (tree_eq (at ts h)) (map (at ts) cs)
all_tests ts d h hh [] hc = refl
all_tests ts d h hh (c ∷ cs) hc = ap₂ (λ a b. a && b) (one_test ts d c h hc.0 hh) (all_tests ts d h hh cs hc.1)

-- whether the numbers are all equal
abbrev pub all_equal : List ℕ → Bool
all_equal cs = list_all (λ c. eqb c (get_or cs 0 0)) cs

-- they are exactly where their trees are
pub all_same-numbers : (ts : List Tree) → AreDistinct ts → (cs : List ℕ) → AllByRecursion (λ c. c < length ts) cs
    → all_equal cs ≡ all_same (map (at ts) cs)
all_same-numbers ts d [] hc = refl
all_same-numbers ts d (c ∷ cs) hc = ap (λ b. b && list_all (λ x. eqb x c) cs) (eq-eqb c c refl) ∙ all_tests ts d c hc.0 cs hc.1
