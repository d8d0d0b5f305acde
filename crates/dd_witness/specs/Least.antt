-- The lexicographically least valuation that makes a tree true.
use Rattle.std.specs.Prelude.{◌≡◌, ℕ, ℤ, pos, ◌<◌, ◌≤◌, ◌<ℤ◌, ◌≤ℤ◌, ◌-ℤ◌, unsigned_abs, List, length, map, slice_index_or, IsTrue, IsFalse}
use Rattle.std.specs.List.{range_with_len}
use Rattle.dd_formula.specs.declared.domain.Domain.{Domain}
use Rattle.dd_tree.specs.Tree.{Tree, truth}
use Rattle.dd_store.specs.Domains.{low_of}

-- the greatest code of a level
abbrev pub high_of : List Domain → ℕ → ℤ
high_of ds l = slice_index_or (map (λ d. d.hi) ds) l (pos 0)

-- the code that a valuation gives a level
abbrev pub code_in : List ℤ → ℕ → ℤ
code_in v l = slice_index_or v l (pos 0)

-- each level has one of its codes
pub record IsValuation (ds : List Domain) (v : List ℤ) : Type 0 where
  pub long : length v ≡ length ds
  pub from : (l : ℕ) → l < length ds → low_of ds l ≤ℤ code_in v l
  pub to : (l : ℕ) → l < length ds → code_in v l ≤ℤ high_of ds l

-- the positions of the codes of a valuation
abbrev pub positions_of : List Domain → List ℤ → List ℕ
positions_of ds v = map (λ l. unsigned_abs (code_in v l -ℤ low_of ds l)) (range_with_len 0 (length ds))

-- the tree is true at the valuation
abbrev pub IsTrueAt : List Domain → Tree → List ℤ → Type 0
IsTrueAt ds t v = IsTrue (truth t (positions_of ds v))

-- w comes before v in lexicographic order, and they differ first at a level from k on
pub record ComesBefore (k : ℕ) (w v : List ℤ) : Type 0 where
  pub at_level : ℕ
  pub from : k ≤ at_level
  pub inside : at_level < length v
  pub same : (l : ℕ) → l < at_level → code_in w l ≡ code_in v l
  pub less : code_in w at_level <ℤ code_in v at_level

-- no valuation that makes the tree true comes before v
abbrev pub NoneBefore : List Domain → ℕ → Tree → List ℤ → Type 0
NoneBefore ds k t v = (w : List ℤ) → IsValuation ds w → IsTrueAt ds t w → ComesBefore k w v → ⊥

-- v makes the tree true, and none that does comes before it
pub record IsLeast (ds : List Domain) (t : Tree) (v : List ℤ) : Type 0 where
  pub valuation : IsValuation ds v
  pub holds : IsTrueAt ds t v
  pub least : NoneBefore ds 0 t v

-- no valuation makes the tree true
abbrev pub IsNeverTrue : List Domain → Tree → Type 0
IsNeverTrue ds t = (w : List ℤ) → IsValuation ds w → IsFalse (truth t (positions_of ds w))
