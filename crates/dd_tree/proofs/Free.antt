-- The tree of a function that reads no level below one, level by level.
use Rattle.std.proofs.Common.{◌≡◌, ℕ, zero, suc, ◌<◌, ◌≤◌, Bool, false, List, length, get_or, set, map, sym, ap, subst, ◌∙◌, arith}
use Rattle.std.proofs.lemmas.List.FromFn.{length-map-range_with_len, get_or-map-range_with_len}
use Rattle.std.specs.List.{range_with_len}
use Rattle.dd_tree.specs.Tree.{Tree, leaf, truth}
use Rattle.dd_tree.specs.Ordered.{IsOrderedFrom, HaveCodes, Agree}
use Rattle.dd_tree.specs.Function.{join, tree_of}
use Rattle.dd_tree.proofs.Cofactor.{IsOrderedFrom-lower, IsTyped-set}
use Rattle.dd_tree.proofs.Join.{truth-join, IsOrderedFrom-join}
use Rattle.dd_tree.proofs.Function.{IsOrderedFrom-tree_of, truth-tree_of, tree_of-is, IsOrderedFrom-above}

-- the function reads no level below k
pub record ReadsFrom (k : ℕ) (f : List ℕ → Bool) : Type 0 where
  pub same : (v : List ℕ) (j c d : ℕ) → j < k → f (set v j c) ≡ f (set v j d)

-- the trees of a function once a level has each position
abbrev pub cofactors_of : List ℕ → ℕ → (ℕ → List ℕ → Bool) → List Tree
cofactors_of sizes k g = map (λ c. tree_of sizes (g c)) (range_with_len 0 (get_or sizes k 0))

module _ (sizes : List ℕ) (codes : HaveCodes sizes) where
  -- functions that agree have one tree
  pub tree_of-agree : (f g : List ℕ → Bool) → Agree sizes f g → tree_of sizes f ≡ tree_of sizes g
  tree_of-agree f g agree = tree_of-is sizes codes f (tree_of sizes g) (IsOrderedFrom-tree_of sizes codes g) (λ v typed. truth-tree_of sizes codes g v typed ∙ sym (agree v typed))

  -- its tree is ordered from there
  pub IsOrderedFrom-free : (f : List ℕ → Bool) (k : ℕ) → k ≤ length sizes → ReadsFrom k f → IsOrderedFrom sizes k (tree_of sizes f)
  IsOrderedFrom-free f k le free = up k (omega arith)
    where
      up : (j : ℕ) → j ≤ k → IsOrderedFrom sizes j (tree_of sizes f)
      up zero h = IsOrderedFrom-tree_of sizes codes f
      up (suc j) h =
          let lt : j < length sizes = omega arith in
          IsOrderedFrom-above sizes codes j (tree_of sizes f) lt (up j (omega arith)) (λ v c d typed hc hd.
          truth-tree_of sizes codes f (set v j c) (IsTyped-set sizes v j c lt hc typed) ∙ free.same v j c d (omega arith)
          ∙ sym (truth-tree_of sizes codes f (set v j d) (IsTyped-set sizes v j d lt hd typed)))

  -- there is one for each code
  pub length-cofactors_of : (k : ℕ) (g : ℕ → List ℕ → Bool) → length (cofactors_of sizes k g) ≡ get_or sizes k 0
  length-cofactors_of k g = length-map-range_with_len (λ c. tree_of sizes (g c)) 0 (get_or sizes k 0)

  -- the one at a position
  pub get_or-cofactors_of : (k : ℕ) (g : ℕ → List ℕ → Bool) (i : ℕ) → i < get_or sizes k 0 → get_or (cofactors_of sizes k g) i (leaf false) ≡ tree_of sizes (g i)
  get_or-cofactors_of k g i lt = get_or-map-range_with_len (λ c. tree_of sizes (g c)) 0 (get_or sizes k 0) i i (leaf false) lt (omega arith)

  -- the trees at each position are ordered from the next level
  pub IsOrderedFrom-cofactors_of : (k : ℕ) (g : ℕ → List ℕ → Bool) → k < length sizes → ((c : ℕ) → ReadsFrom (suc k) (g c))
      → (i : ℕ) → i < length (cofactors_of sizes k g) → IsOrderedFrom sizes (suc k) (get_or (cofactors_of sizes k g) i (leaf false))
  IsOrderedFrom-cofactors_of k g lt free i small =
      let inside : i < get_or sizes k 0 = omega (arith, length-cofactors_of k g) in
      subst (IsOrderedFrom sizes (suc k)) (sym (get_or-cofactors_of k g i inside)) (IsOrderedFrom-free (g i) (suc k) (omega arith) (free i))

  -- the tree is the split of those on the level
  pub tree_of-join : (f : List ℕ → Bool) (g : ℕ → List ℕ → Bool) (k : ℕ) → k < length sizes → ((c : ℕ) → ReadsFrom (suc k) (g c)) → Agree sizes f (λ v. g (get_or v k 0) v)
      → tree_of sizes f ≡ join k (cofactors_of sizes k g)
  tree_of-join f g k lt free agree =
      let cofactors = cofactors_of sizes k g in
      let ordered : IsOrderedFrom sizes k (join k cofactors) = IsOrderedFrom-join sizes k cofactors lt (length-cofactors_of k g) (IsOrderedFrom-cofactors_of k g lt free) (omega (arith, length-cofactors_of k g, codes k lt)) in
      tree_of-is sizes codes f (join k cofactors) (IsOrderedFrom-lower sizes 0 k (join k cofactors) (omega arith) ordered) (λ v typed.
      let x = get_or v k 0 in
      let small : x < get_or sizes k 0 = typed.within k lt in
      truth-join k cofactors v (omega (arith, length-cofactors_of k g, small)) ∙ ap (λ w. truth w v) (get_or-cofactors_of k g x small)
      ∙ truth-tree_of sizes codes (g x) v typed ∙ sym (agree v typed))
