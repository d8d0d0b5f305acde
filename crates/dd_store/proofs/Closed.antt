-- The subtrees of a store's trees are in the store.
use Rattle.std.proofs.Common.{◌≡◌, ◌≢◌, ◌⊎◌, ℕ, zero, suc, ◌<◌, ◌≤◌, Bool, true, false, List, [], ◌∷◌, ◌++◌, length, map, sym, subst, inl, inr, ⊎_elim, arith}
use Rattle.std.proofs.lemmas.Bool.{cases_lt, cases_eq}
use Rattle.std.proofs.lemmas.List.{get_or_append_left, get_or_push, get_or_past, length_push}
use Rattle.std.specs.List.{AllByRecursion, flat_map}
use Rattle.dd_tree.specs.Tree.{Tree, leaf, branches}
use Rattle.dd_tree.specs.Ordered.{IsOrderedFrom}
use Rattle.dd_tree.specs.Added.{splits, splits_of, IsIn, AreIn}
use Rattle.dd_tree.proofs.Added.{IsIn-front, IsIn-last, AreIn-append, splits_of-branches}
use Rattle.dd_store.specs.Held.{sizes, Node, Held, at, tree_in, trees_from, leaves, trees}
use Rattle.dd_store.specs.Kept.{AreNodes, IsHeld}
use Rattle.dd_store.proofs.Trees.{at_false, at_true, length-trees}
use Rattle.dd_store.proofs.Distinct.{found_at}

-- the inner subtrees of each tree are in the list
pub record IsClosed (ts : List Tree) : Type 0 where
  pub has : (i : ℕ) → i < length ts → AreIn ts (splits (at ts i))

-- what is in a list is in a longer one
AreIn-front : (ts us vs : List Tree) → AreIn ts vs → AreIn (ts ++ us) vs
AreIn-front ts us [] h = tt
AreIn-front ts us (v ∷ vs) h = (IsIn-front ts us v h.0, AreIn-front ts us vs h.1)

-- the inner subtrees of some of the trees are in the list
of_children : (ts : List Tree) → IsClosed ts → (cs : List ℕ) → AllByRecursion (λ c. c < length ts) cs → AreIn ts (flat_map splits (map (at ts) cs))
of_children ts closed [] h = tt
of_children ts closed (c ∷ cs) h = AreIn-append ts (splits (at ts c)) (flat_map splits (map (at ts) cs)) (closed.has c h.0) (of_children ts closed cs h.1)

-- a node over the trees may be last
IsClosed-push : (ts : List Tree) → IsClosed ts → (n : Node) → AllByRecursion (λ c. c < length ts) n.children → IsClosed (ts ++ tree_in ts n ∷ [])
IsClosed-push ts closed n below = record { has = λ i lt. by i lt (cases_lt i (length ts)) }
  where
    us : List Tree
    us = ts ++ tree_in ts n ∷ []

    by : (i : ℕ) → i < length us → (i < length ts) ⊎ (length ts ≤ i) → AreIn us (splits (at us i))
    by i lt (inl a) = subst (λ t. AreIn us (splits t)) (sym (get_or_append_left ts (tree_in ts n ∷ []) (leaf false) i a)) (AreIn-front ts (tree_in ts n ∷ []) (splits (at ts i)) (closed.has i a))
    by i lt (inr a) =
        subst (λ t. AreIn us (splits t)) (sym (get_or_push ts (tree_in ts n) (leaf false) i (omega (arith, length_push ts (tree_in ts n)))))
        (AreIn-append us (splits_of (branches (map (at ts) n.children))) (tree_in ts n ∷ [])
        (subst (AreIn us) (sym (splits_of-branches (map (at ts) n.children))) (AreIn-front ts (tree_in ts n ∷ []) _ (of_children ts closed n.children below)))
        (IsIn-last ts (tree_in ts n), tt))

-- the trees of nodes are closed
IsClosed-trees_from : (sizes : List ℕ) (ts : List Tree) (ns : List Node) → IsClosed ts → AreNodes sizes ts ns → IsClosed (trees_from ts ns)
IsClosed-trees_from sizes ts [] closed h = closed
IsClosed-trees_from sizes ts (n ∷ ns) closed h = IsClosed-trees_from sizes (ts ++ tree_in ts n ∷ []) ns (IsClosed-push ts closed n h.0.below) h.1

-- and so are the leaves
IsClosed-leaves : IsClosed leaves
IsClosed-leaves = record { has = by }
  where
    by : (i : ℕ) → i < length leaves → AreIn leaves (splits (at leaves i))
    by zero h = tt
    by (suc zero) h = tt
    by (suc (suc i)) h = absurd (omega arith)

-- and so is every store
pub IsClosed-trees : (held : Held) → IsHeld held → IsClosed (trees held)
unfolding trees
IsClosed-trees held h = IsClosed-trees_from (sizes held) leaves held.nodes IsClosed-leaves h.nodes

-- every store has the leaves
pub IsIn-leaf : (held : Held) (b : Bool) → IsIn (trees held) (leaf b)
IsIn-leaf held false = subst (IsIn (trees held)) (at_false held) (found_at (trees held) 0 (omega (arith, length-trees held)))
IsIn-leaf held true = subst (IsIn (trees held)) (at_true held) (found_at (trees held) 1 (omega (arith, length-trees held)))

-- the trees of nodes are ordered and reduced
IsOrderedFrom-trees_from : (sizes : List ℕ) (ts : List Tree) (ns : List Node) → ((i : ℕ) → IsOrderedFrom sizes 0 (at ts i)) → AreNodes sizes ts ns → (i : ℕ) → IsOrderedFrom sizes 0 (at (trees_from ts ns) i)
IsOrderedFrom-trees_from sizes ts [] all h i = all i
IsOrderedFrom-trees_from sizes ts (n ∷ ns) all h i = IsOrderedFrom-trees_from sizes (ts ++ tree_in ts n ∷ []) ns (λ j. by j (cases_lt j (length ts))) h.1 i
  where
    us : List Tree
    us = ts ++ tree_in ts n ∷ []

    by : (j : ℕ) → (j < length ts) ⊎ (length ts ≤ j) → IsOrderedFrom sizes 0 (at us j)
    by j (inl a) = subst (IsOrderedFrom sizes 0) (sym (get_or_append_left ts (tree_in ts n ∷ []) (leaf false) j a)) (all j)
    by j (inr a) = ⊎_elim
        (λ (e : j ≡ length ts). subst (IsOrderedFrom sizes 0) (sym (get_or_push ts (tree_in ts n) (leaf false) j (sym e))) h.0.ordered)
        (λ (ne : j ≡ length ts → ⊥). subst (IsOrderedFrom sizes 0) (sym (get_or_past us j (leaf false) (let apart : j ≢ length ts = ne in omega (arith, length_push ts (tree_in ts n))))) tt)
        (cases_eq j (length ts))

-- leaves are ordered
IsOrderedFrom-leaves : (sizes : List ℕ) (i : ℕ) → IsOrderedFrom sizes 0 (at leaves i)
IsOrderedFrom-leaves sizes zero = tt
IsOrderedFrom-leaves sizes (suc zero) = tt
IsOrderedFrom-leaves sizes (suc (suc i)) = tt

-- in a store each number's tree is ordered and reduced
pub IsOrderedFrom-at : (held : Held) → IsHeld held → (i : ℕ) → IsOrderedFrom (sizes held) 0 (at (trees held) i)
unfolding trees
IsOrderedFrom-at held h i = IsOrderedFrom-trees_from (sizes held) leaves held.nodes (IsOrderedFrom-leaves (sizes held)) h.nodes i
