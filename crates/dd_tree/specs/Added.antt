-- Lists of trees without repeats, which grow by the inner subtrees of a tree.
use Rattle.std.specs.Prelude.{◌≡◌, ℕ, ◌<◌, ◌≤◌, List, [], ◌∷◌, ◌++◌, length, slice_index_or, if◌then◌else◌, IsTrue}
use Rattle.std.specs.List.{AllByRecursion}
use Rattle.dd_tree.specs.Tree.{Tree, leaf, split, Branches, no_branch, branch, has_tree}

abbrev mutual
  -- the inner subtrees of a tree, children before parents, with repeats
  pub splits : Tree → List Tree
  splits (leaf b) = []
  splits (split l bs) = splits_of bs ++ split l bs ∷ []

  -- those of the branches
  pub splits_of : Branches → List Tree
  splits_of no_branch = []
  splits_of (branch t bs) = splits t ++ splits_of bs

-- the trees, with one more at the end if it is new
abbrev pub add_tree : List Tree → Tree → List Tree
add_tree ts t = if has_tree ts t then ts else ts ++ t ∷ []

-- the trees, and then those of a second list that are new
abbrev pub add_all : List Tree → List Tree → List Tree
add_all ts [] = ts
add_all ts (u ∷ us) = add_all (add_tree ts u) us

-- the tree is in the list
abbrev pub IsIn : List Tree → Tree → Type 0
IsIn ts t = IsTrue (has_tree ts t)

-- each tree of a second list is in the first
abbrev pub AreIn : List Tree → List Tree → Type 0
AreIn ts us = AllByRecursion (IsIn ts) us

-- the list only grows: each tree keeps its place
pub record Extends (old new : List Tree) : Type 0 where
  pub longer : length old ≤ length new
  pub same : (i : ℕ) (d : Tree) → i < length old → slice_index_or new i d ≡ slice_index_or old i d
