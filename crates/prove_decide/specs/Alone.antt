-- What listing one formula by itself tells, with a limit on the distinct splits of its listing.
use Rattle.std.specs.Prelude.{ℕ, ◌<◌, ◌≤◌, List, [], ◌∷◌}
use Rattle.dd_formula.specs.declared.domain.Domain.{Domain}
use Rattle.dd_formula.specs.declared.formula.Formula.{Formula}
use Rattle.prove_decide.specs.declared.decision.Decision.{Decision}
use Rattle.prove_decide.specs.declared.decision.Decision.TheVariants.{Over, Unsatisfiable, Satisfied}
use Rattle.prove_decide.specs.Counts.{nodes_listed}
use Rattle.prove_decide.specs.Least.{IsUnsatisfiable}
use Rattle.prove_decide.specs.Readings.{IsWitness}

-- past the limit; or within it, and true at no valuation, or with this witness
abbrev pub IsDecided : List Domain → ℕ → Formula → Decision → Type 0
IsDecided ds limit f Over = limit < nodes_listed ds (f ∷ [])
IsDecided ds limit f Unsatisfiable = (nodes_listed ds (f ∷ []) ≤ limit) × IsUnsatisfiable ds f
IsDecided ds limit f (Satisfied w) = (nodes_listed ds (f ∷ []) ≤ limit) × IsWitness ds f w
