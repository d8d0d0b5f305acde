-- How many distinct splits the trees of formulas have.
use Rattle.std.specs.Prelude.{ℕ, List, [], length, map}
use Rattle.std.specs.List.{flat_map}
use Rattle.dd_formula.specs.declared.domain.Domain.{Domain}
use Rattle.dd_formula.specs.declared.formula.Formula.{Formula}
use Rattle.dd_formula.specs.Truth.{holds_at}
use Rattle.dd_tree.specs.Tree.{Tree}
use Rattle.dd_tree.specs.Function.{tree_of}
use Rattle.dd_tree.specs.Added.{splits, add_all}
use Rattle.dd_store.specs.Domains.{sizes_of}
use Rattle.dd_build.specs.Atoms.{codes_at}
use Rattle.dd_build.specs.Listing.{listing}

-- the tree that is true where the formula is, over levels with these codes
abbrev pub tree_over : List Domain → Formula → Tree
tree_over ds f = tree_of (sizes_of ds) (λ v. holds_at (codes_at ds v) f)

-- the splits of the formulas' trees, each once
abbrev pub distinct_splits : List Domain → List Formula → List Tree
distinct_splits ds fs = add_all [] (flat_map splits (map (tree_over ds) fs))

-- how many they are
unfoldable pub nodes : List Domain → List Formula → ℕ
nodes ds fs = length (distinct_splits ds fs)

-- how many there are once these formulas have been listed
abbrev pub nodes_listed : List Domain → List Formula → ℕ
nodes_listed ds fs = nodes ds (flat_map listing fs)
