-- The descent through a tree that finds the least valuation.
use Rattle.std.specs.Prelude.{◌≡◌, ◌≢◌, ℕ, ℤ, ◌<◌, ◌≤◌, false, List, length, slice_index_or}
use Rattle.dd_formula.specs.declared.domain.Domain.{Domain}
use Rattle.dd_tree.specs.Tree.{leaf}
use Rattle.dd_tree.specs.Ordered.{IsOrderedFrom}
use Rattle.dd_store.specs.Domains.{low_of}
use Rattle.dd_store.specs.Held.{Held, sizes, trees, at, IsKnown}
use Rattle.dd_store.specs.Kept.{IsHeld}
use Rattle.dd_witness.specs.declared.Choice.{Choice}
use Rattle.dd_witness.specs.Least.{code_in, IsValuation, IsTrueAt, NoneBefore}

-- the choice is the first position whose child has another number
pub record IsFirstOther (children : List ℕ) (number : ℕ) (choice : Choice) : Type 0 where
  pub within : choice.position < length children
  pub child : (d : ℕ) → slice_index_or children choice.position d ≡ choice.child
  pub other : choice.child ≢ number
  pub before : (i d : ℕ) → i < choice.position → slice_index_or children i d ≡ number

-- each level from one on has its least code
abbrev pub AreLowest : List Domain → ℕ → List ℤ → Type 0
AreLowest ds k v = (l : ℕ) → k ≤ l → l < length ds → code_in v l ≡ low_of ds l

-- the tree can be true and is ordered from the level, and from there on all codes are the least
pub record IsReady (held : Held) (id k : ℕ) (v : List ℤ) : Type 0 where
  pub is_held : IsHeld held
  pub known : IsKnown held id
  pub ordered : IsOrderedFrom (sizes held) k (at (trees held) id)
  pub possible : at (trees held) id ≢ leaf false
  pub valuation : IsValuation held.domains v
  pub lowest : AreLowest held.domains k v

-- the codes below the level are kept, and those from there on are the least that make the tree true
pub record IsLeastFrom (held : Held) (id k : ℕ) (old new : List ℤ) : Type 0 where
  pub valuation : IsValuation held.domains new
  pub kept : (l : ℕ) → l < k → code_in new l ≡ code_in old l
  pub holds : IsTrueAt held.domains (at (trees held) id) new
  pub least : NoneBefore held.domains k (at (trees held) id) new
