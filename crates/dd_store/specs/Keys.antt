-- The set's keys as nodes.
use Rattle.std.specs.Prelude.{◌≡◌, ◌⊎◌, ℕ, ◌<◌, List, [], ◌∷◌, ◌++◌, length, map, slice_get, Some, Contains}
use Rattle.dd_store.specs.declared.node.NodeKey.{NodeKey}
use Rattle.dd_store.specs.Runs.{children_of, AreJoinedFrom}
use Rattle.dd_store.specs.Held.{Node}

-- the node of a key
abbrev pub node_of : NodeKey → Node
node_of k = record { level = k.level; children = children_of k.runs.items }

-- the nodes of the keys
abbrev pub nodes_of : List NodeKey → List Node
nodes_of ks = map node_of ks

-- the key's runs are joined, so its node has no other key
abbrev pub IsJoinedKey : NodeKey → Type 0
IsJoinedKey k = AreJoinedFrom 0 k.runs.items

-- the node is at place i of new, which is old, or old with the node last where it was not there and there was room
pub record Puts (old new : List Node) (n : Node) (limit i : ℕ) : Type 0 where
  pub here : slice_get new i ≡ Some n
  pub kept : (new ≡ old) ⊎ ((new ≡ old ++ n ∷ []) × (length old < limit) × (Contains old n → ⊥))
