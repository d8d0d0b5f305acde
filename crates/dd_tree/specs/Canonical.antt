-- Reduced ordered trees are a canonical form of functions of valuations.
use Rattle.std.specs.Prelude.{◌≡◌, ℕ, Bool, List}
use Rattle.dd_tree.specs.Tree.{Tree, truth}
use Rattle.dd_tree.specs.Ordered.{IsOrderedFrom, HaveCodes, Agree}
use Rattle.dd_tree.specs.Function.{tree_of}

-- two reduced ordered trees with the same truth at every typed valuation are equal
abbrev pub OneTreePerFunction : Type 0
OneTreePerFunction =
    (sizes : List ℕ) → HaveCodes sizes → (t u : Tree) → IsOrderedFrom sizes 0 t → IsOrderedFrom sizes 0 u → Agree sizes (truth t) (truth u) → t ≡ u

-- the tree of a function is reduced and ordered, and has the function's truth
pub record IsTreeOf (sizes : List ℕ) (f : List ℕ → Bool) (t : Tree) : Type 0 where
  pub ordered : IsOrderedFrom sizes 0 t
  pub agrees : Agree sizes (truth t) f

-- each function has such a tree, namely `tree_of`
abbrev pub TreeForEachFunction : Type 0
TreeForEachFunction = (sizes : List ℕ) → HaveCodes sizes → (f : List ℕ → Bool) → IsTreeOf sizes f (tree_of sizes f)
