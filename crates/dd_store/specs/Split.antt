-- Splits over the trees of a store.
use Rattle.std.specs.Prelude.{◌≡◌, ℕ, suc, ◌+◌, ◌<◌, List, length, map, slice_index, IsFalse}
use Rattle.std.specs.List.{AllByRecursion}
use Rattle.dd_tree.specs.Tree.{Tree, leaf, split, branches, has_tree}
use Rattle.dd_tree.specs.Ordered.{IsOrderedFrom, AreOrderedFrom}
use Rattle.dd_tree.specs.Function.{join}
use Rattle.dd_store.specs.declared.node.Stretch.{Stretch}
use Rattle.dd_store.specs.declared.node.View.{View}
use Rattle.dd_store.specs.declared.node.View.TheVariants.{Leaf, Node}
use Rattle.dd_store.specs.Runs.{children_of, AreJoinedFrom}
use Rattle.dd_store.specs.Held.{Held, sizes, trees, at, IsKnown}

-- one child per code, each a leaf or a node of the store on a later level
pub record IsSplit (held : Held) (level : ℕ) (children : List ℕ) : Type 0 where
  pub in_range : level < length (sizes held)
  pub full : length children ≡ slice_index (sizes held) level
  pub below : AllByRecursion (IsKnown held) children
  pub later : AreOrderedFrom (sizes held) (suc level) (branches (map (at (trees held)) children))

-- the tree of the split, or that of the one child where all are equal
abbrev pub join_of : Held → ℕ → List ℕ → Tree
join_of held level children = join level (map (at (trees held)) children)

-- that of a split given by its runs
abbrev pub split_of : Held → ℕ → List Stretch → Tree
split_of held level runs = join_of held level (children_of runs)

-- the tree is not in the store, which has as many splits as the limit
pub record HasNoRoom (held : Held) (t : Tree) : Type 0 where
  pub at_limit : length (trees held) ≡ held.limit + 2
  pub not_there : IsFalse (has_tree (trees held) t)

-- the number has the split on the level, whose children have smaller numbers and whose runs are joined
pub record ShowsNode (held : Held) (id level : ℕ) (runs : List Stretch) : Type 0 where
  pub tree : at (trees held) id ≡ split level (branches (map (at (trees held)) (children_of runs)))
  pub below : AllByRecursion (λ c. c < id) (children_of runs)
  pub ordered : IsOrderedFrom (sizes held) 0 (at (trees held) id)
  pub joined : AreJoinedFrom 0 runs

-- the view shows the tree of the number
abbrev pub Shows : Held → ℕ → View → Type 0
Shows held id (Leaf b) = at (trees held) id ≡ leaf b
Shows held id (Node level runs) = ShowsNode held id level runs.now
