-- One formula by itself.
use Rattle.std.proofs.Common.{◌≡◌, ℕ, ◌+◌, ◌<◌, List, [], ◌∷◌, take, refl, subst, arith}
use Rattle.dd_formula.specs.declared.domain.Domain.{Domain}
use Rattle.dd_formula.specs.declared.formula.Formula.{Formula}
use Rattle.dd_store.specs.Held.{Held}
use Rattle.prove_decide.specs.declared.decision.Decision.{Decision}
use Rattle.prove_decide.specs.declared.decision.Decision.TheVariants.{Over, Unsatisfiable, Satisfied}
use Rattle.prove_decide.specs.Counts.{nodes_listed}
use Rattle.prove_decide.specs.Readings.{IsWitness}
use Rattle.prove_decide.specs.Decisions.{IsDecision, IsBare}
use Rattle.prove_decide.specs.Alone.{IsDecided}
use Rattle.prove_decide.proofs.Progress.{IsThrough, IsThrough-start, passed, passes_limit, fails_at, IsThrough-next}

-- the list of it alone, before it is listed
begun : (held : Held) (ds : List Domain) (limit : ℕ) (f : Formula) → IsBare ds limit held → IsThrough held ds limit (f ∷ []) 0
begun held ds limit f bare = IsThrough-start held ds limit (f ∷ []) bare.domains bare.limited bare.trees_are bare.is_held

pub decided_alone : (held new : Held) (ds : List Domain) (limit : ℕ) (f : Formula) (decision : Decision) → IsBare ds limit held → IsDecision held new f decision → IsDecided ds limit f decision
decided_alone held new ds limit f Over bare over =
    let p = passes_limit held ds limit (f ∷ []) 0 (begun held ds limit f bare) f refl over in
    let there = p.there in
    let zero : p.number ≡ 0 = omega arith in
    subst (λ n. limit < nodes_listed ds (take (n + 1) (f ∷ []))) zero p.over
decided_alone held new ds limit f Unsatisfiable bare excluded =
    let through : IsThrough new ds limit (f ∷ []) 1 = IsThrough-next held ds limit (f ∷ []) 0 (begun held ds limit f bare) f refl new excluded in
    ((passed new ds limit (f ∷ []) 1 through).within, through.unsatisfiable 0 f (omega arith) refl)
decided_alone held new ds limit f (Satisfied w) bare found =
    ((fails_at held ds limit (f ∷ []) 0 (begun held ds limit f bare) f refl new w found).within, subst (λ es. IsWitness es f w) bare.domains found.witness)
