-- What a contract sees of a store: its levels, its limit, its trees and its memo.
use Rattle.std.specs.Prelude.{◌≡◌, ℕ, ◌<◌, true, false, List, [], ◌∷◌, ◌++◌, length, slice_index_or, map}
use Rattle.dd_formula.specs.declared.domain.Domain.{Domain}
use Rattle.dd_tree.specs.Tree.{Tree, leaf, split, branches}
use Rattle.dd_store.specs.declared.memo.MemoKey.{MemoKey}
use Rattle.dd_store.specs.Domains.{sizes_of}

-- a level, and the number of a tree for each code
pub record Node : Type 0 where
  pub level : ℕ
  pub children : List ℕ

-- the domains of the levels, the limit, the nodes in order, and the memo's entries, the last used first
pub record Held : Type 0 where
  pub domains : List Domain
  pub limit : ℕ
  pub nodes : List Node
  pub entries : List (MemoKey × ℕ)

-- how many codes each level has
abbrev pub sizes : Held → List ℕ
sizes held = sizes_of held.domains

-- the tree of a number
abbrev pub at : List Tree → ℕ → Tree
at ts id = slice_index_or ts id (leaf false)

-- the tree of a node whose children are among these trees
abbrev pub tree_in : List Tree → Node → Tree
tree_in ts n = split n.level (branches (map (at ts) n.children))

-- these trees, and then those of the nodes
abbrev pub trees_from : List Tree → List Node → List Tree
trees_from ts [] = ts
trees_from ts (n ∷ ns) = trees_from (ts ++ tree_in ts n ∷ []) ns

-- the leaves false and true, which have the numbers 0 and 1
abbrev pub leaves : List Tree
leaves = leaf false ∷ leaf true ∷ []

-- all trees of a store, by their numbers: the two leaves, and then those of the nodes
unfoldable pub trees : Held → List Tree
trees held = trees_from leaves held.nodes

-- the number is a leaf's or is in the store
abbrev pub IsKnown : Held → ℕ → Type 0
IsKnown held id = id < length (trees held)

-- the number is known and has the tree
pub record Has (held : Held) (id : ℕ) (t : Tree) : Type 0 where
  pub known : IsKnown held id
  pub tree : at (trees held) id ≡ t

-- all but the memo is the same
pub record IsSameButMemo (old new : Held) : Type 0 where
  pub domains : new.domains ≡ old.domains
  pub limit : new.limit ≡ old.limit
  pub trees : trees new ≡ trees old
