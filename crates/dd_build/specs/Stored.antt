-- Formulas that have been listed, and are listed again.
use Rattle.std.specs.Prelude.{ℕ, List, [], ◌∷◌, ◌++◌}
use Rattle.std.specs.List.{flat_map}
use Rattle.dd_formula.specs.declared.formula.Formula.{Formula}
use Rattle.dd_formula.specs.declared.formula.Formula.TheVariants.{And}
use Rattle.dd_tree.specs.Added.{splits, AreIn}
use Rattle.dd_store.specs.Held.{Held, trees, Has}
use Rattle.dd_build.specs.declared.conjunction.Shared.{Shared}
use Rattle.dd_build.specs.Formulas.{formula_tree, listing_trees, IsListed}

-- the number has the formula's tree, and the splits of its listing are in the store
pub record IsStored (held : Held) (f : Formula) (id : ℕ) : Type 0 where
  pub has : Has held id (formula_tree held f)
  pub there : AreIn (trees held) (flat_map splits (listing_trees held f))

-- so it is with each formula of a list and its number
abbrev pub AreStored : Held → List Formula → List ℕ → Type 0
AreStored held [] [] = Unit {0}
AreStored held [] (id ∷ ids) = ⊥
AreStored held (f ∷ fs) [] = ⊥
AreStored held (f ∷ fs) (id ∷ ids) = IsStored held f id × AreStored held fs ids

-- the conjunction is listed, and then the members of the second place are stored
pub record IsListedSharing (old new : Held) (first rest : List Formula) (shared : Shared) : Type 0 where
  pub listed : IsListed old new (And (first ++ rest)) shared.whole
  pub stored : AreStored new rest shared.rest.items
