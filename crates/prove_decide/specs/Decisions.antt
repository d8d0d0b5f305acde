-- What listing one formula more does to a store, and tells.
use Rattle.std.specs.Prelude.{◌≡◌, ℕ, List, Option, Some, None}
use Rattle.dd_formula.specs.declared.domain.Domain.{Domain}
use Rattle.dd_formula.specs.declared.formula.Formula.{Formula}
use Rattle.dd_store.specs.Held.{Held, leaves, trees}
use Rattle.dd_store.specs.Kept.{IsHeld}
use Rattle.dd_build.specs.Built.{Keeps}
use Rattle.dd_build.specs.Formulas.{with_trees, AreOver, listing_trees}
use Rattle.prove_decide.specs.declared.decision.Decision.{Decision}
use Rattle.prove_decide.specs.declared.decision.Decision.TheVariants.{Over, Unsatisfiable, Satisfied}
use Rattle.prove_decide.specs.declared.witness.Witness.{Witness}
use Rattle.prove_decide.specs.Least.{IsUnsatisfiable}
use Rattle.prove_decide.specs.Readings.{IsWitness}

-- the store holds what it held and the splits of the formula's listing, for which there was room
pub record HasListed (old new : Held) (f : Formula) : Type 0 where
  pub keeps : Keeps old new
  pub adds : trees new ≡ with_trees old (listing_trees old f)
  pub fits : AreOver old (listing_trees old f) → ⊥

-- the formula is listed, and is true at no valuation
pub record IsExcluded (old new : Held) (f : Formula) : Type 0 where
  pub listed : HasListed old new f
  pub unsatisfiable : IsUnsatisfiable old.domains f

-- it is listed, and this is its witness
pub record IsFound (old new : Held) (f : Formula) (w : Witness) : Type 0 where
  pub listed : HasListed old new f
  pub witness : IsWitness old.domains f w

abbrev pub IsDecision : Held → Held → Formula → Decision → Type 0
IsDecision old new f Over = AreOver old (listing_trees old f)
IsDecision old new f Unsatisfiable = IsExcluded old new f
IsDecision old new f (Satisfied w) = IsFound old new f w

-- the witness of the formula, or none where it is true at no valuation
abbrev pub IsAnswer : List Domain → Formula → Option Witness → Type 0
IsAnswer ds f None = IsUnsatisfiable ds f
IsAnswer ds f (Some w) = IsWitness ds f w

-- a store of the leaves alone
pub record IsBare (ds : List Domain) (limit : ℕ) (held : Held) : Type 0 where
  pub domains : held.domains ≡ ds
  pub limited : held.limit ≡ limit
  pub trees_are : trees held ≡ leaves
  pub is_held : IsHeld held
