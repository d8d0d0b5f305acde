-- The tree of a function is ordered and reduced, has the function's truth, and is the one such tree.
use Rattle.std.proofs.Common.{◌≡◌, ℕ, zero, suc, ◌+◌, ◌<◌, ◌≤◌, Bool, true, false, cond, eqb, List, [], ◌∷◌, ◌++◌, length, get_or, map, take, set, refl, sym, ap, subst, ◌∙◌, arith, get_or-set_same, get_or-set_other}
use Rattle.std.proofs.lemmas.Bool.{eqb-true, eqb-false, true≢false}
use Rattle.std.proofs.lemmas.List.{length_push, take_all, take_more}
use Rattle.std.proofs.lemmas.List.FromFn.{length-map-range_with_len, get_or-map-range_with_len}
use Rattle.std.specs.List.{range_with_len}
use Rattle.dd_tree.specs.Tree.{Tree, leaf, split, listed, truth}
use Rattle.dd_tree.specs.Ordered.{IsOrderedFrom, HaveCodes, IsTyped, Agree}
use Rattle.dd_tree.specs.Function.{tree_from, tree_of, cofactor}
use Rattle.dd_tree.specs.Canonical.{TreeForEachFunction}
use Rattle.dd_tree.proofs.Cofactor.{IsOrderedFrom-lower, IsOrderedFrom-cofactor, truth-cofactor, truth_above}
use Rattle.dd_tree.proofs.Join.{truth-join, IsOrderedFrom-join, all_same-from}
use Rattle.dd_tree.proofs.Canon.{canon}

module _ (sizes : List ℕ) (codes : HaveCodes sizes) (f : List ℕ → Bool) where
  -- the trees at each position of the next level
  abbrev cofactors : ℕ → List ℕ → List Tree
  cofactors n p = map (λ c. tree_from sizes n (p ++ c ∷ []) f) (range_with_len 0 (get_or sizes (length p) 0))

  -- the one at a position
  cofactor_there : (n : ℕ) (p : List ℕ) (i : ℕ) → i < get_or sizes (length p) 0 → get_or (cofactors n p) i (leaf false) ≡ tree_from sizes n (p ++ i ∷ []) f
  cofactor_there n p i lt = get_or-map-range_with_len (λ c. tree_from sizes n (p ++ c ∷ []) f) 0 (get_or sizes (length p) 0) i i (leaf false) lt (omega arith)

  -- there is one for each code
  how_many : (n : ℕ) (p : List ℕ) → length (cofactors n p) ≡ get_or sizes (length p) 0
  how_many n p = length-map-range_with_len (λ c. tree_from sizes n (p ++ c ∷ []) f) 0 (get_or sizes (length p) 0)

  -- it is ordered from the first level that is left
  pub IsOrderedFrom-tree_from : (n : ℕ) (p : List ℕ) → length p + n ≡ length sizes → IsOrderedFrom sizes (length p) (tree_from sizes n p f)
  IsOrderedFrom-tree_from zero p e = tt
  IsOrderedFrom-tree_from (suc n) p e =
      let lt : length p < length sizes = omega arith in
      IsOrderedFrom-join sizes (length p) (cofactors n p) lt (how_many n p)
      (λ i small. let i_in : i < get_or sizes (length p) 0 = omega (arith, how_many n p) in
      let long : length (p ++ i ∷ []) ≡ suc (length p) = omega (arith, length_push p i) in
      subst (IsOrderedFrom sizes (suc (length p))) (sym (cofactor_there n p i i_in)) (subst (λ k. IsOrderedFrom sizes k (tree_from sizes n (p ++ i ∷ []) f)) long (IsOrderedFrom-tree_from n (p ++ i ∷ []) (omega arith))))
      (omega (arith, how_many n p, codes (length p) lt))

  -- it has the function's truth where the valuation begins as chosen
  pub truth-tree_from : (n : ℕ) (p v : List ℕ) → length p + n ≡ length sizes → IsTyped sizes v → take (length p) v ≡ p → truth (tree_from sizes n p f) v ≡ f v
  truth-tree_from zero p v e typed front = ap f (sym front ∙ take_all (length p) v (omega (arith, typed.long)))
  truth-tree_from (suc n) p v e typed front =
      let lt : length p < length sizes = omega arith in
      let x = get_or v (length p) 0 in
      let small : x < get_or sizes (length p) 0 = typed.within (length p) lt in
      let long : length (p ++ x ∷ []) ≡ suc (length p) = omega (arith, length_push p x) in
      truth-join (length p) (cofactors n p) v (omega (arith, how_many n p, small)) ∙ ap (λ t. truth t v) (cofactor_there n p x small)
      ∙ truth-tree_from n (p ++ x ∷ []) v (omega arith) typed
      (ap (λ k. take k v) (omega (arith, length_push p x)) ∙ take_more v (length p) 0 (omega (arith, typed.long)) ∙ ap (λ q. q ++ x ∷ []) front)

  -- the tree of a function is ordered and reduced
  pub IsOrderedFrom-tree_of : IsOrderedFrom sizes 0 (tree_of sizes f)
  unfolding tree_of
  IsOrderedFrom-tree_of = IsOrderedFrom-tree_from (length sizes) [] (omega arith)

  -- and has its truth
  pub truth-tree_of : Agree sizes (truth (tree_of sizes f)) f
  unfolding tree_of
  truth-tree_of v typed = truth-tree_from (length sizes) [] v (omega arith) typed refl

  -- and is the one such tree
  pub tree_of-is : (w : Tree) → IsOrderedFrom sizes 0 w → Agree sizes (truth w) f → tree_of sizes f ≡ w
  tree_of-is w h agree = canon sizes codes (length sizes) 0 (omega arith) (tree_of sizes f) w IsOrderedFrom-tree_of h (λ v typed. truth-tree_of v typed ∙ sym (agree v typed))

-- a tree whose truth does not read level k does not split on it
pub IsOrderedFrom-above : (sizes : List ℕ) → HaveCodes sizes → (k : ℕ) (w : Tree) → k < length sizes → IsOrderedFrom sizes k w
    → ((v : List ℕ) (c d : ℕ) → IsTyped sizes v → c < get_or sizes k 0 → d < get_or sizes k 0 → truth w (set v k c) ≡ truth w (set v k d)) → IsOrderedFrom sizes (suc k) w
IsOrderedFrom-above sizes codes k (leaf b) lt h free = tt
IsOrderedFrom-above sizes codes k (split l bs) lt h free = by (eqb l k) refl
  where
    w : Tree
    w = split l bs

    -- the cofactor's truth is the tree's with that position
    side : (c : ℕ) (v : List ℕ) → IsTyped sizes v → truth (cofactor k c w) v ≡ truth w (set v k c)
    side c v typed =
        truth_above sizes (suc k) (cofactor k c w) v (set v k c) (IsOrderedFrom-cofactor sizes k c w h) (λ m le. sym (get_or-set_other v k m c 0 (λ e. absurd (omega arith))))
        ∙ truth-cofactor k c w (set v k c) (get_or-set_same v k c 0 (omega (arith, typed.long)))

    -- all cofactors are one
    alike : (c : ℕ) → c < get_or sizes k 0 → cofactor k c w ≡ cofactor k 0 w
    alike c small =
        canon sizes codes (length sizes) 0 (omega arith) (cofactor k c w) (cofactor k 0 w)
        (IsOrderedFrom-lower sizes 0 (suc k) (cofactor k c w) (omega arith) (IsOrderedFrom-cofactor sizes k c w h)) (IsOrderedFrom-lower sizes 0 (suc k) (cofactor k 0 w) (omega arith) (IsOrderedFrom-cofactor sizes k 0 w h))
        (λ v typed. side c v typed ∙ free v c 0 typed small (codes k lt) ∙ sym (side 0 v typed))

    -- a cofactor is a branch where the tree splits on the level
    is_branch : eqb l k ≡ true → (c : ℕ) → cofactor k c w ≡ get_or (listed bs) c (leaf false)
    is_branch q c = ap (λ b. cond b (get_or (listed bs) c (leaf false)) w) q

    by : (r : Bool) → eqb l k ≡ r → IsOrderedFrom sizes (suc k) w
    by true q =
        let at_k : l ≡ k = eqb-true l k q in
        absurd (true≢false (sym (all_same-from (get_or (listed bs) 0 (leaf false)) (listed bs) (λ i small.
        let in_size : i < get_or sizes k 0 = omega (arith, h.2, ap (λ m. get_or sizes m 0) at_k) in
        sym (is_branch q i) ∙ alike i in_size ∙ is_branch q 0)) ∙ h.3))
    by false q = let ne = eqb-false l k q in let up : suc k ≤ l = omega (arith, h.0) in (up, h.1, h.2, h.3, h.4)

-- the tree of each function
pub tree_for_each : TreeForEachFunction
tree_for_each sizes codes f = record { ordered = IsOrderedFrom-tree_of sizes codes f; agrees = truth-tree_of sizes codes f }
