-- What every store keeps.
use Rattle.std.specs.Prelude.{◌≡◌, ℕ, ◌+◌, ◌<◌, ◌≤◌, List, [], ◌∷◌, ◌++◌, length, slice_index, IsFalse, Contains}
use Rattle.std.specs.List.{All, AllByRecursion}
use Rattle.dd_tree.specs.Tree.{Tree, has_tree}
use Rattle.dd_tree.specs.Ordered.{IsOrderedFrom, HaveCodes}
use Rattle.dd_tree.specs.Added.{splits, AreIn}
use Rattle.dd_store.specs.declared.memo.MemoKey.{MemoKey}
use Rattle.dd_store.specs.declared.store.TheConstants.{SPLIT_LIMIT}
use Rattle.dd_store.specs.Domains.{IsDomain}
use Rattle.dd_store.specs.Held.{Node, Held, sizes, at, tree_in, leaves, trees, IsKnown}
use Rattle.dd_store.specs.Memo.{IsResult}

-- a node whose children are among these trees, and whose tree is ordered, reduced and not among them
pub record IsNode (sizes : List ℕ) (ts : List Tree) (n : Node) : Type 0 where
  pub below : AllByRecursion (λ c. c < length ts) n.children
  pub ordered : IsOrderedFrom sizes 0 (tree_in ts n)
  pub fresh : IsFalse (has_tree ts (tree_in ts n))

-- each node is one over the trees before it
abbrev pub AreNodes : List ℕ → List Tree → List Node → Type 0
AreNodes sizes ts [] = Unit {0}
AreNodes sizes ts (n ∷ ns) = IsNode sizes ts n × AreNodes sizes (ts ++ tree_in ts n ∷ []) ns

-- what every store keeps: 1 to 8,192 codes a level, at most as many nodes as the limit, no tree twice, and right answers in its memo
pub record IsHeld (held : Held) : Type 0 where
  pub domains : All IsDomain held.domains
  pub codes : HaveCodes (sizes held)
  pub narrow : (l : ℕ) → slice_index (sizes held) l ≤ 8192
  pub few : held.limit ≤ SPLIT_LIMIT
  pub room : length held.nodes ≤ held.limit
  pub nodes : AreNodes (sizes held) leaves held.nodes
  pub right : (e : MemoKey × ℕ) → Contains held.entries e → IsResult held e.0 e.1

-- the store is canonical: distinct numbers have distinct trees, each is ordered and reduced, its inner subtrees are in the store, and beside the leaves there are at most as many as the limit
pub record IsCanonical (held : Held) : Type 0 where
  pub distinct : (i j : ℕ) → IsKnown held i → IsKnown held j → at (trees held) i ≡ at (trees held) j → i ≡ j
  pub ordered : (i : ℕ) → IsOrderedFrom (sizes held) 0 (at (trees held) i)
  pub closed : (i : ℕ) → IsKnown held i → AreIn (trees held) (splits (at (trees held) i))
  pub few : length (trees held) ≤ held.limit + 2

-- every store is canonical
abbrev pub OneIdPerTree : Type 0
OneIdPerTree = (held : Held) → IsHeld held → IsCanonical held
