-- What is told of a formula whose tree has been built.
use Rattle.std.proofs.Common.{◌≡◌, ℕ, ℤ, List, subst}
use Rattle.dd_formula.specs.declared.formula.Formula.{Formula}
use Rattle.dd_store.specs.Held.{Held, trees, at}
use Rattle.dd_build.specs.Built.{Keeps}
use Rattle.dd_build.specs.Formulas.{IsListed}
use Rattle.dd_witness.specs.Least.{IsLeast, IsNeverTrue}
use Rattle.prove_decide.specs.declared.witness.Witness.{Witness}
use Rattle.prove_decide.specs.Decisions.{HasListed, IsExcluded, IsFound}
use Rattle.prove_decide.specs.Least.{IsUnsatisfiable}
use Rattle.prove_decide.specs.Readings.{readings_of, IsWitness}
use Rattle.prove_decide.proofs.Answers.{never_satisfied, shows_least}
use Rattle.prove_decide.proofs.Listed.{has_own_tree}

module _ (old new : Held) (f : Formula) (id : ℕ) (k : Keeps old new) (built : IsListed old new f id) where
  listed : HasListed old new f
  listed = record { keeps = k; adds = built.adds; fits = built.fits }

  pub excluded : IsNeverTrue new.domains (at (trees new) id) → IsExcluded old new f
  excluded never = record {
    listed = listed;
    unsatisfiable = subst (λ ds. IsUnsatisfiable ds f) k.domains (never_satisfied new id f k.held (has_own_tree old new f id k built) never);
  }

  pub found : (v : List ℤ) (w : Witness) → IsLeast new.domains (at (trees new) id) v → w.readings ≡ readings_of f v → IsFound old new f w
  found v w least shown = record {
    listed = listed;
    witness = subst (λ ds. IsWitness ds f w) k.domains (shows_least new id f v w k.held (has_own_tree old new f id k built) least shown);
  }
