-- A formula that is built again on the store that a fault left.
use Rattle.std.specs.Prelude.{◌≡◌, ℕ}
use Rattle.dd_formula.specs.declared.formula.Formula.{Formula}
use Rattle.dd_tree.specs.Tree.{Tree, has_tree}
use Rattle.dd_store.specs.Held.{Held, trees, at}
use Rattle.dd_store.specs.Kept.{IsHeld}
use Rattle.dd_build.specs.Built.{Keeps}
use Rattle.dd_build.specs.Formulas.{listing_trees, AreOver, IsListed, AreWithin}

-- a number of each store has the same tree, and both hold the same trees, be it at other numbers
pub record IsSameButNumbers (one two : Held) (i j : ℕ) : Type 0 where
  pub tree : at (trees two) j ≡ at (trees one) i
  pub held : (t : Tree) → has_tree (trees two) t ≡ has_tree (trees one) t

-- the formula is too much for both stores or for neither, and what is built on both is the same but for numbers
pub record AnswersAs (old left : Held) (f : Formula) : Type 0 where
  pub over : AreOver old (listing_trees old f) → AreOver left (listing_trees left f)
  pub fits : AreOver left (listing_trees left f) → AreOver old (listing_trees old f)
  pub built : (one two : Held) (i j : ℕ) → IsListed old one f i → IsListed left two f j → IsSameButNumbers one two i j

-- On what a build left that stopped, as without memory, the same formula is answered as on the store before that build.
abbrev pub StoppedBuildsGoOn : Type 0
StoppedBuildsGoOn = (old left : Held) (f : Formula) → IsHeld old → Keeps old left → AreWithin old left (listing_trees old f) → AnswersAs old left f
