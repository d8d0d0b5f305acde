-- The trees of a list of nodes.
use Rattle.std.proofs.Common.{◌≡◌, ℕ, ◌+◌, ◌<◌, true, false, List, [], ◌∷◌, ◌++◌, length, refl, ◌∙◌, arith}
use Rattle.std.proofs.lemmas.List.{get_or_append_left, length_push}
use Rattle.dd_tree.specs.Tree.{Tree, leaf}
use Rattle.dd_store.specs.Held.{sizes, Node, Held, at, tree_in, trees_from, leaves, trees}
use Rattle.dd_store.specs.Kept.{IsNode, AreNodes}

-- the trees stay in front
pub at-trees_from : (ts : List Tree) (ns : List Node) (i : ℕ) → i < length ts → at (trees_from ts ns) i ≡ at ts i
at-trees_from ts [] i h = refl
at-trees_from ts (n ∷ ns) i h =
    at-trees_from (ts ++ tree_in ts n ∷ []) ns i (omega (arith, length_push ts (tree_in ts n))) ∙ get_or_append_left ts (tree_in ts n ∷ []) (leaf false) i h

-- number 0 is the leaf false
pub at_false : (held : Held) → at (trees held) 0 ≡ leaf false
unfolding trees
at_false held = at-trees_from leaves held.nodes 0 (omega arith)

-- number 1 is the leaf true
pub at_true : (held : Held) → at (trees held) 1 ≡ leaf true
unfolding trees
at_true held = at-trees_from leaves held.nodes 1 (omega arith)

-- each node adds a tree
pub length-trees_from : (ts : List Tree) (ns : List Node) → length (trees_from ts ns) ≡ length ts + length ns
length-trees_from ts [] = omega arith
length-trees_from ts (n ∷ ns) = omega (arith, length-trees_from (ts ++ tree_in ts n ∷ []) ns, length_push ts (tree_in ts n))

-- a store has a tree for each node, and two leaves
pub length-trees : (held : Held) → length (trees held) ≡ length held.nodes + 2
unfolding trees
length-trees held = omega (arith, length-trees_from leaves held.nodes)

-- one node more is one tree more
pub trees_from-push : (ts : List Tree) (ns : List Node) (n : Node) → trees_from ts (ns ++ n ∷ []) ≡ trees_from ts ns ++ tree_in (trees_from ts ns) n ∷ []
trees_from-push ts [] n = refl
trees_from-push ts (m ∷ ns) n = trees_from-push (ts ++ tree_in ts m ∷ []) ns n

-- a node over all trees may be last
pub AreNodes-push : (sizes : List ℕ) (ts : List Tree) (ns : List Node) (n : Node) → AreNodes sizes ts ns → IsNode sizes (trees_from ts ns) n → AreNodes sizes ts (ns ++ n ∷ [])
AreNodes-push sizes ts [] n h k = (k, tt)
AreNodes-push sizes ts (m ∷ ns) n h k = (h.0, AreNodes-push sizes (ts ++ tree_in ts m ∷ []) ns n h.1 k)
