-- Decision trees: a leaf, or a split at a level with one branch per code.
use Rattle.std.specs.Prelude.{ℕ, zero, suc, Bool, true, false, ◌==◌, ◌&&◌, List, [], ◌∷◌, slice_index}
use Rattle.std.specs.List.{list_all, list_any}

mutual
  -- a truth, or a level with a tree for each of its codes
  pub data Tree : Type 0 where
    leaf : Bool → Tree
    split : ℕ → Branches → Tree

  -- trees in a row
  pub data Branches : Type 0 where
    no_branch : Branches
    branch : Tree → Branches → Branches

-- the branches as a list
abbrev pub listed : Branches → List Tree
listed no_branch = []
listed (branch t bs) = t ∷ listed bs

-- a list as branches
abbrev pub branches : List Tree → Branches
branches [] = no_branch
branches (t ∷ ts) = branch t (branches ts)

-- whether two truths are the same
abbrev pub same_bool : Bool → Bool → Bool
same_bool true b = b
same_bool false true = false
same_bool false false = true

abbrev mutual
  -- whether two trees are equal
  pub tree_eq : Tree → Tree → Bool
  tree_eq (leaf a) (leaf b) = same_bool a b
  tree_eq (leaf a) (split m cs) = false
  tree_eq (split l bs) (leaf b) = false
  tree_eq (split l bs) (split m cs) = l == m && branches_eq bs cs

  -- whether they are so branch by branch
  pub branches_eq : Branches → Branches → Bool
  branches_eq no_branch no_branch = true
  branches_eq no_branch (branch u cs) = false
  branches_eq (branch t bs) no_branch = false
  branches_eq (branch t bs) (branch u cs) = tree_eq t u && branches_eq bs cs

-- whether all trees of a list are equal
abbrev pub all_same : List Tree → Bool
all_same [] = true
all_same (t ∷ ts) = list_all (tree_eq t) ts

-- whether the tree is in the list
abbrev pub has_tree : List Tree → Tree → Bool
has_tree ts t = list_any (tree_eq t) ts

abbrev mutual
  -- the truth at a valuation, which has the position of a code for each level
  pub truth : Tree → List ℕ → Bool
  truth (leaf b) v = b
  truth (split l bs) v = truth_at bs (slice_index v l) v

  -- the truth of the branch at a position
  pub truth_at : Branches → ℕ → List ℕ → Bool
  truth_at no_branch i v = false
  truth_at (branch t bs) zero v = truth t v
  truth_at (branch t bs) (suc i) v = truth_at bs i v
