-- The tree that a search grows: the states that it reached, in the order in which it did, each with what led there.
use Rattle.std.specs.Prelude.{◌≡◌, ℕ, zero, suc, ◌+◌, ◌<◌, ℤ, pos, Bool, List, [], ◌∷◌, ◌++◌, length, map, slice_index_or}
use Rattle.std.specs.List.{list_any}
use Rattle.std.specs.Ordering.{int_eq}
use lib.Pointwise.{pointwise}
use Rattle.std.specs.declared.vec.Vec.{Vec}
use Rattle.std.specs.declared.alloc.Global.{Global}
use Rattle.scr_spec.specs.declared.state.Input.{Input}
use Rattle.scr_spec.specs.Meaning.{Codes}
use Rattle.run_reach.specs.declared.tree.Link.{Link}

-- ---- a state with the step that first led there

abbrev pub Node : Type 0
Node = Codes × Link

abbrev pub Tree : Type 0
Tree = List Node

-- what is said to lead to the first state, and to one that is not there
abbrev pub no_link : Link
no_link = record { parent = 0; input = record { variable = 0; code = pos 0 }; depth = 0 }

abbrev pub root : Codes → Node
root first = (first, no_link)

abbrev pub node_at : Tree → ℕ → Node
node_at tree n = slice_index_or tree n ([], no_link)

abbrev pub codes_at : Tree → ℕ → Codes
codes_at tree n = (node_at tree n).0

abbrev pub link_at : Tree → ℕ → Link
link_at tree n = (node_at tree n).1

-- how many inputs lead to the state
abbrev pub depth_at : Tree → ℕ → ℕ
depth_at tree n = (link_at tree n).depth

-- the state that the input leads to from the state with this number
abbrev pub child_of : Tree → ℕ → Input → Codes → Node
child_of tree n input new = (new, record { parent = n; input = input; depth = depth_at tree n + 1 })

-- ---- what is stored

-- the state has a number
pub record IsStored (tree : Tree) (at : Codes) : Type 0 where
  pub number : ℕ
  pub within : number < length tree
  pub same : codes_at tree number ≡ at

-- the same as a test
abbrev pub has_codes : Tree → Codes → Bool
has_codes tree codes = list_any (λ node. pointwise int_eq codes node.0) tree

-- ---- the inputs that lead to a state

-- so many inputs, the last one that of the state
abbrev pub path_from : ℕ → Tree → ℕ → List Input
path_from zero tree n = []
path_from (suc d) tree n = path_from d tree (link_at tree n).parent ++ (link_at tree n).input ∷ []

abbrev pub path_of : Tree → ℕ → List Input
path_of tree n = path_from (depth_at tree n) tree n

-- ---- the tree as it is kept

abbrev pub Entry : Type 0
Entry = (Vec ℤ Global) × Link

abbrev pub node_of : Entry → Node
node_of entry = (entry.0.items, entry.1)

abbrev pub nodes_of : List Entry → Tree
nodes_of entries = map node_of entries
