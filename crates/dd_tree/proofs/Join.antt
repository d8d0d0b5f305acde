-- The split of a list of trees.
use Rattle.std.proofs.Common.{◌≡◌, ℕ, zero, suc, ◌<◌, Bool, true, false, cond, List, [], ◌∷◌, length, get_or, refl, sym, ap, subst, ◌∙◌, arith}
use Rattle.std.proofs.lemmas.Bool.{and_parts, and_from}
use Rattle.std.specs.List.{list_all}
use Rattle.dd_tree.specs.Tree.{Tree, leaf, split, branches, tree_eq, all_same, truth}
use Rattle.dd_tree.specs.Ordered.{IsOrderedFrom, AreOrderedFrom}
use Rattle.dd_tree.specs.Function.{first, join}
use Rattle.dd_tree.proofs.Equal.{eq_trees, tree_eq-itself, listed-branches}
use Rattle.dd_tree.proofs.Cofactor.{truth_at-listed, IsOrderedFrom-lower}

-- where each tree of a list is equal to one, the tree at each place is that one
all_equal_to : (t : Tree) (ts : List Tree) (i : ℕ) → list_all (tree_eq t) ts ≡ true → i < length ts → get_or ts i (leaf false) ≡ t
all_equal_to t [] i h lt = absurd (omega arith)
all_equal_to t (u ∷ us) zero h lt = sym (eq_trees t u (and_parts _ _ h).0)
all_equal_to t (u ∷ us) (suc i) h lt = all_equal_to t us i (and_parts _ _ h).1 (omega arith)

-- where all are equal, each is the first
pub first-get_or : (ts : List Tree) (i : ℕ) → all_same ts ≡ true → i < length ts → get_or ts i (leaf false) ≡ first ts
first-get_or [] i h lt = absurd (omega arith)
first-get_or (t ∷ ts) zero h lt = refl
first-get_or (t ∷ ts) (suc i) h lt = all_equal_to t ts i h (omega arith)

-- where the tree at each place is one, all are equal to it
all_from : (t : Tree) (ts : List Tree) → ((i : ℕ) → i < length ts → get_or ts i (leaf false) ≡ t) → list_all (tree_eq t) ts ≡ true
all_from t [] h = refl
all_from t (u ∷ us) h = and_from _ _ (ap (tree_eq t) (h 0 (omega arith)) ∙ tree_eq-itself t) (all_from t us (λ i lt. h (suc i) (omega arith)))

-- and where each is one tree, all are equal
pub all_same-from : (t : Tree) (ts : List Tree) → ((i : ℕ) → i < length ts → get_or ts i (leaf false) ≡ t) → all_same ts ≡ true
all_same-from t [] h = refl
all_same-from t (u ∷ us) h = all_from u us (λ i lt. h (suc i) (omega arith) ∙ sym (h 0 (omega arith)))

-- the truth of a split is that of the branch that the valuation takes
pub truth-join : (l : ℕ) (ts : List Tree) (v : List ℕ) → get_or v l 0 < length ts → truth (join l ts) v ≡ truth (get_or ts (get_or v l 0) (leaf false)) v
truth-join l ts v lt = by (all_same ts) refl
  where
    by : (b : Bool) → all_same ts ≡ b → truth (cond b (first ts) (split l (branches ts))) v ≡ truth (get_or ts (get_or v l 0) (leaf false)) v
    by true q = ap (λ t. truth t v) (sym (first-get_or ts (get_or v l 0) q lt))
    by false q = truth_at-listed (branches ts) (get_or v l 0) v ∙ ap (λ us. truth (get_or us (get_or v l 0) (leaf false)) v) (listed-branches ts)

-- branches are ordered where the tree at each place is
pub AreOrderedFrom-branches : (sizes : List ℕ) (k : ℕ) (ts : List Tree) → ((i : ℕ) → i < length ts → IsOrderedFrom sizes k (get_or ts i (leaf false))) → AreOrderedFrom sizes k (branches ts)
AreOrderedFrom-branches sizes k [] h = tt
AreOrderedFrom-branches sizes k (t ∷ ts) h = (h 0 (omega arith), AreOrderedFrom-branches sizes k ts (λ i lt. h (suc i) (omega arith)))

-- the split of ordered trees is ordered
pub IsOrderedFrom-join : (sizes : List ℕ) (l : ℕ) (ts : List Tree) → l < length sizes → length ts ≡ get_or sizes l 0 → ((i : ℕ) → i < length ts → IsOrderedFrom sizes (suc l) (get_or ts i (leaf false))) → 0 < length ts → IsOrderedFrom sizes l (join l ts)
IsOrderedFrom-join sizes l ts lt full h pos = by (all_same ts) refl
  where
    by : (b : Bool) → all_same ts ≡ b → IsOrderedFrom sizes l (cond b (first ts) (split l (branches ts)))
    by true q = IsOrderedFrom-lower sizes l (suc l) (first ts) (omega arith) (subst (IsOrderedFrom sizes (suc l)) (first-get_or ts 0 q pos) (h 0 pos))
    by false q = let back = listed-branches ts in (omega arith, lt, ap length back ∙ full, ap all_same back ∙ q, AreOrderedFrom-branches sizes (suc l) ts h)
