-- The tree of a function of valuations.
use Rattle.std.specs.Prelude.{ℕ, zero, suc, Bool, false, ◌==◌, if◌then◌else◌, List, [], ◌∷◌, ◌++◌, length, map, slice_index, slice_index_or}
use Rattle.std.specs.List.{range_with_len}
use Rattle.dd_tree.specs.Tree.{Tree, leaf, split, listed, branches, all_same, truth}

-- the first tree, or the leaf false
abbrev pub first : List Tree → Tree
first [] = leaf false
first (t ∷ ts) = t

-- the split on a level, or the one branch where all are equal
abbrev pub join : ℕ → List Tree → Tree
join l ts = if all_same ts then first ts else split l (branches ts)

-- the tree of a function with n levels left, those before having the positions p: the leaf of its truth after the last level, and at a level one child per code, joined where all are equal
abbrev pub tree_from : List ℕ → ℕ → List ℕ → (List ℕ → Bool) → Tree
tree_from sizes zero p f = leaf (f p)
tree_from sizes (suc n) p f = join (length p) (map (λ c. tree_from sizes n (p ++ c ∷ []) f) (range_with_len 0 (slice_index sizes (length p))))

-- the tree of a function of valuations
unfoldable pub tree_of : List ℕ → (List ℕ → Bool) → Tree
tree_of sizes f = tree_from sizes (length sizes) [] f

-- the tree of an operation on two trees
abbrev pub joined : (Bool → Bool → Bool) → List ℕ → Tree → Tree → Tree
joined op sizes t u = tree_of sizes (λ v. op (truth t v) (truth u v))

-- whether the tree is a split on the level
abbrev pub splits_at : ℕ → Tree → Bool
splits_at k (leaf b) = false
splits_at k (split l bs) = l == k

-- the cofactor of a tree: what is left of it once level k, the first that it may split on, has the code at position c
abbrev pub cofactor : ℕ → ℕ → Tree → Tree
cofactor k c (leaf b) = leaf b
cofactor k c (split l bs) = if l == k then slice_index_or (listed bs) c (leaf false) else split l bs
