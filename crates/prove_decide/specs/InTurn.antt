-- Formulas that are listed in order, with a limit on the distinct splits of all of them.
use Rattle.std.specs.Prelude.{◌≡◌, ℕ, ◌+◌, ◌<◌, ◌≤◌, List, length, take, slice_get, Some}
use Rattle.dd_formula.specs.declared.domain.Domain.{Domain}
use Rattle.dd_formula.specs.declared.formula.Formula.{Formula}
use Rattle.prove_decide.specs.declared.witness.Witness.{Witness}
use Rattle.prove_decide.specs.Counts.{nodes_listed}
use Rattle.prove_decide.specs.Least.{IsUnsatisfiable}
use Rattle.prove_decide.specs.Readings.{IsWitness}

-- the first i formulas have been listed within the limit, and none of them is true at a valuation
pub record ArePassed (ds : List Domain) (limit : ℕ) (fs : List Formula) (i : ℕ) : Type 0 where
  pub within : nodes_listed ds (take i fs) ≤ limit
  pub unsatisfiable : (j : ℕ) (f : Formula) → j < i → slice_get fs j ≡ Some f → IsUnsatisfiable ds f

-- all formulas pass
abbrev pub AllPass : List Domain → ℕ → List Formula → Type 0
AllPass ds limit fs = ArePassed ds limit fs (length fs)

-- those before formula i pass, and it has been listed within the limit and has the witness
pub record FailsAt (ds : List Domain) (limit : ℕ) (fs : List Formula) (i : ℕ) (w : Witness) : Type 0 where
  pub before : ArePassed ds limit fs i
  pub within : nodes_listed ds (take (i + 1) fs) ≤ limit
  pub formula : Formula
  pub there : slice_get fs i ≡ Some formula
  pub witness : IsWitness ds formula w

-- those before some formula pass, and its listing passes the limit, whether or not it can be true
pub record PassesLimit (ds : List Domain) (limit : ℕ) (fs : List Formula) : Type 0 where
  pub number : ℕ
  pub there : number < length fs
  pub before : ArePassed ds limit fs number
  pub over : limit < nodes_listed ds (take (number + 1) fs)
