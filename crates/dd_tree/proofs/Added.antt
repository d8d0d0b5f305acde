-- Trees added to a list without repeats.
use Rattle.std.proofs.Common.{◌≡◌, ℕ, suc, ◌<◌, Bool, true, false, ◌||◌, cond, List, [], ◌∷◌, ◌++◌, length, get_or, replicate, refl, sym, ap, subst, ◌∙◌, arith}
use Rattle.std.proofs.lemmas.Bool.{or_left, or_right, false≢true}
use Rattle.std.proofs.lemmas.List.{get_or_append_left, length_push, get_or-replicate, length-replicate}
use Rattle.std.specs.List.{list_any, flat_map}
use Rattle.dd_tree.specs.Tree.{Tree, leaf, split, branches, tree_eq, all_same}
use Rattle.dd_tree.specs.Function.{first, join}
use Rattle.dd_tree.specs.Added.{splits, splits_of, add_tree, add_all, IsIn, AreIn, Extends}
use Rattle.dd_tree.proofs.Equal.{tree_eq-itself}
use Rattle.dd_tree.proofs.Join.{first-get_or}

-- a tree of the front
pub IsIn-front : (ts us : List Tree) (t : Tree) → IsIn ts t → IsIn (ts ++ us) t
IsIn-front [] us t h = absurd (false≢true h)
IsIn-front (x ∷ ts) us t h = by (tree_eq t x) h (IsIn-front ts us t)
  where
    by : (b : Bool) → (b || list_any (tree_eq t) ts) ≡ true → (IsIn ts t → IsIn (ts ++ us) t) → (b || list_any (tree_eq t) (ts ++ us)) ≡ true
    by true q rest = refl
    by false q rest = rest q

-- the last tree
pub IsIn-last : (ts : List Tree) (t : Tree) → IsIn (ts ++ t ∷ []) t
IsIn-last [] t = or_left _ _ (tree_eq-itself t)
IsIn-last (x ∷ ts) t = or_right _ _ (IsIn-last ts t)

-- a tree that is there is not added
pub add_tree-known : (ts : List Tree) (t : Tree) → IsIn ts t → add_tree ts t ≡ ts
add_tree-known ts t h = ap (λ b. cond b ts (ts ++ t ∷ [])) h

-- one that is not is last
pub add_tree-new : (ts : List Tree) (t : Tree) → list_any (tree_eq t) ts ≡ false → add_tree ts t ≡ ts ++ t ∷ []
add_tree-new ts t h = ap (λ b. cond b ts (ts ++ t ∷ [])) h

-- what is there stays
pub IsIn-add_tree : (ts : List Tree) (u t : Tree) → IsIn ts t → IsIn (add_tree ts u) t
IsIn-add_tree ts u t h = by (list_any (tree_eq u) ts)
  where
    by : (b : Bool) → IsIn (cond b ts (ts ++ u ∷ [])) t
    by true = h
    by false = IsIn-front ts (u ∷ []) t h

-- and the added tree is there
pub IsIn-added : (ts : List Tree) (t : Tree) → IsIn (add_tree ts t) t
IsIn-added ts t = by (list_any (tree_eq t) ts) refl
  where
    by : (b : Bool) → list_any (tree_eq t) ts ≡ b → IsIn (cond b ts (ts ++ t ∷ [])) t
    by true q = q
    by false q = IsIn-last ts t

-- a list extends itself
pub Extends-itself : (ts : List Tree) → Extends ts ts
Extends-itself ts = record { longer = omega arith; same = λ i d h. refl }

-- growth goes on
pub Extends-trans : (a b c : List Tree) → Extends a b → Extends b c → Extends a c
Extends-trans a b c h k = record { longer = omega (arith, h.longer, k.longer); same = λ i d lt. k.same i d (omega (arith, h.longer)) ∙ h.same i d lt }

-- by one tree
Extends-add_tree : (ts : List Tree) (u : Tree) → Extends ts (add_tree ts u)
Extends-add_tree ts u = by (list_any (tree_eq u) ts)
  where
    by : (b : Bool) → Extends ts (cond b ts (ts ++ u ∷ []))
    by true = Extends-itself ts
    by false = record { longer = omega (arith, length_push ts u); same = λ i d lt. get_or_append_left ts (u ∷ []) d i lt }

-- by a list
pub Extends-add_all : (ts us : List Tree) → Extends ts (add_all ts us)
Extends-add_all ts [] = Extends-itself ts
Extends-add_all ts (u ∷ us) = Extends-trans ts (add_tree ts u) (add_all (add_tree ts u) us) (Extends-add_tree ts u) (Extends-add_all (add_tree ts u) us)

-- one list after another
pub add_all-append : (ts us vs : List Tree) → add_all ts (us ++ vs) ≡ add_all (add_all ts us) vs
add_all-append ts [] vs = refl
add_all-append ts (u ∷ us) vs = add_all-append (add_tree ts u) us vs

-- trees that are all there are not added
pub add_all-known : (ts us : List Tree) → AreIn ts us → add_all ts us ≡ ts
add_all-known ts [] h = refl
add_all-known ts (u ∷ us) h = ap (λ x. add_all x us) (add_tree-known ts u h.0) ∙ add_all-known ts us h.1

-- what is there stays, by a list
pub IsIn-add_all : (ts us : List Tree) (t : Tree) → IsIn ts t → IsIn (add_all ts us) t
IsIn-add_all ts [] t h = h
IsIn-add_all ts (u ∷ us) t h = IsIn-add_all (add_tree ts u) us t (IsIn-add_tree ts u t h)

-- and the added trees are there
pub AreIn-add_all : (ts us : List Tree) → AreIn (add_all ts us) us
AreIn-add_all ts [] = tt
AreIn-add_all ts (u ∷ us) = (IsIn-add_all (add_tree ts u) us u (IsIn-added ts u), AreIn-add_all (add_tree ts u) us)

-- two lists of trees that are there
pub AreIn-append : (ts us vs : List Tree) → AreIn ts us → AreIn ts vs → AreIn ts (us ++ vs)
AreIn-append ts [] vs h k = k
AreIn-append ts (u ∷ us) vs h k = (h.0, AreIn-append ts us vs h.1 k)

-- the inner subtrees of branches
pub splits_of-branches : (ts : List Tree) → splits_of (branches ts) ≡ flat_map splits ts
splits_of-branches [] = refl
splits_of-branches (t ∷ ts) = ap (λ us. splits t ++ us) (splits_of-branches ts)

-- a tree is in a list that has the leaves and its inner subtrees
IsIn-own : (ts : List Tree) → ((b : Bool) → IsIn ts (leaf b)) → (t : Tree) → IsIn (add_all ts (splits t)) t
IsIn-own ts leaves (leaf b) = leaves b
IsIn-own ts leaves (split l bs) =
    subst (λ x. IsIn x (split l bs)) (sym (add_all-append ts (splits_of bs) (split l bs ∷ []))) (IsIn-added (add_all ts (splits_of bs)) (split l bs))

-- the inner subtrees of many of one tree
pub AreIn-repeated : (ts : List Tree) (t : Tree) (us : List Tree) → AreIn ts (splits t) → ((i : ℕ) → i < length us → get_or us i (leaf false) ≡ t) → AreIn ts (flat_map splits us)
AreIn-repeated ts t [] h same = tt
AreIn-repeated ts t (u ∷ us) h same =
    AreIn-append ts (splits u) (flat_map splits us) (subst (λ x. AreIn ts (splits x)) (sym (same 0 (omega arith))) h) (AreIn-repeated ts t us h (λ i lt. same (suc i) (omega arith)))

-- adding the inner subtrees of the branches and then the split adds those of the split
pub add_all-join : (ts : List Tree) → ((b : Bool) → IsIn ts (leaf b)) → (l : ℕ) (branch_trees : List Tree) → add_tree (add_all ts (flat_map splits branch_trees)) (join l branch_trees) ≡ add_all ts (splits (join l branch_trees))
add_all-join ts leaves l branch_trees = by (all_same branch_trees) refl
  where
    by : (b : Bool) → all_same branch_trees ≡ b → add_tree (add_all ts (flat_map splits branch_trees)) (cond b (first branch_trees) (split l (branches branch_trees))) ≡ add_all ts (splits (cond b (first branch_trees) (split l (branches branch_trees))))
    by false q =
        ap (λ us. add_tree (add_all ts us) (split l (branches branch_trees))) (sym (splits_of-branches branch_trees)) ∙ sym (add_all-append ts (splits_of (branches branch_trees)) (split l (branches branch_trees) ∷ []))
    by true q = same branch_trees q
      where
        same : (ks : List Tree) → all_same ks ≡ true → add_tree (add_all ts (flat_map splits ks)) (first ks) ≡ add_all ts (splits (first ks))
        same [] h = add_tree-known ts (leaf false) (leaves false)
        same (k ∷ ks) h =
            let mine = add_all ts (splits k) in
            let once : add_all ts (splits k ++ flat_map splits ks) ≡ mine =
            add_all-append ts (splits k) (flat_map splits ks)
            ∙ add_all-known mine (flat_map splits ks) (AreIn-repeated mine k ks (AreIn-add_all ts (splits k)) (λ i lt. first-get_or (k ∷ ks) (suc i) h (omega arith))) in
            ap (λ x. add_tree x k) once ∙ add_tree-known mine k (IsIn-own ts leaves k)

-- many of one tree are as one
pub add_all-repeated : (ts : List Tree) (u : Tree) (m : ℕ) → add_all ts (flat_map splits (replicate (suc m) u)) ≡ add_all ts (splits u)
add_all-repeated ts u m =
    add_all-append ts (splits u) (flat_map splits (replicate m u))
    ∙ add_all-known (add_all ts (splits u)) (flat_map splits (replicate m u)) (AreIn-repeated (add_all ts (splits u)) u (replicate m u) (AreIn-add_all ts (splits u))
    (λ i lt. get_or-replicate {A = Tree} m i u (leaf false) (omega (arith, length-replicate m u))))
