-- Reduced ordered trees, and valuations of their levels. A level is given by how many codes it has.
use Rattle.std.specs.Prelude.{◌≡◌, ℕ, suc, ◌<◌, ◌≤◌, Bool, List, length, slice_index, IsFalse}
use Rattle.dd_tree.specs.Tree.{Tree, leaf, split, Branches, no_branch, branch, listed, all_same}

abbrev mutual
  -- ordered from level k on and reduced: levels rise, there is one branch per code, and no split has equal branches
  pub IsOrderedFrom : List ℕ → ℕ → Tree → Type 0
  IsOrderedFrom sizes k (leaf b) = Unit {0}
  IsOrderedFrom sizes k (split l bs) =
      (k ≤ l) × (l < length sizes) × (length (listed bs) ≡ slice_index sizes l) × IsFalse (all_same (listed bs)) × AreOrderedFrom sizes (suc l) bs

  -- each branch is so
  pub AreOrderedFrom : List ℕ → ℕ → Branches → Type 0
  AreOrderedFrom sizes k no_branch = Unit {0}
  AreOrderedFrom sizes k (branch t bs) = IsOrderedFrom sizes k t × AreOrderedFrom sizes k bs

-- each level has a code
abbrev pub HaveCodes : List ℕ → Type 0
HaveCodes sizes = (l : ℕ) → l < length sizes → 0 < slice_index sizes l

-- a valuation has the position of a code at each level
pub record IsTyped (sizes v : List ℕ) : Type 0 where
  pub long : length v ≡ length sizes
  pub within : (l : ℕ) → l < length sizes → slice_index v l < slice_index sizes l

-- two functions have the same truth at every typed valuation
abbrev pub Agree : List ℕ → (List ℕ → Bool) → (List ℕ → Bool) → Type 0
Agree sizes f g = (v : List ℕ) → IsTyped sizes v → f v ≡ g v
