-- A formula is decided in one way, and never in none.
use Rattle.std.proofs.Common.{◌≡◌, ℕ, ◌<◌, ◌≤◌, List, [], ◌∷◌, refl, sym, ap, ◌∙◌, inl, inr, arith}
use Rattle.std.proofs.lemmas.Bool.{cases_lt, false≢true, false_from_ne_true}
use Rattle.dd_formula.specs.declared.domain.Domain.{Domain}
use Rattle.dd_formula.specs.declared.formula.Formula.{Formula}
use Rattle.prove_decide.specs.declared.decision.Decision.{Decision}
use Rattle.prove_decide.specs.declared.decision.Decision.TheVariants.{Over, Unsatisfiable, Satisfied}
use Rattle.prove_decide.specs.declared.witness.Reading.{Reading}
use Rattle.prove_decide.specs.declared.witness.Witness.{Witness}
use Rattle.prove_decide.specs.Counts.{nodes_listed}
use Rattle.prove_decide.specs.Least.{is_true_at, IsUnsatisfiable}
use Rattle.prove_decide.specs.Readings.{IsWitness, readings_of}
use Rattle.prove_decide.specs.Alone.{IsDecided}
use Rattle.prove_decide.proofs.OneLeast.{one_least}
use Rattle.prove_decide.proofs.SomeLeast.{some_least_true}

-- a witness is what it shows
same_shown : (w u : Witness) → w.readings ≡ u.readings → w ≡ u
same_shown w u e = let made : List Reading → Witness = λ rs. record { readings = rs } in ap made e

-- a formula has one witness
pub one_witness : (ds : List Domain) (f : Formula) (w u : Witness) → IsWitness ds f w → IsWitness ds f u → w ≡ u
one_witness ds f w u h k = same_shown w u (h.shown ∙ ap (readings_of f) (one_least ds f h.valuation k.valuation h.least k.least) ∙ sym k.shown)

-- one that no witness is shown for is true nowhere
pub no_witness : (ds : List Domain) (f : Formula) → ((w : Witness) → IsWitness ds f w → ⊥) → IsUnsatisfiable ds f
no_witness ds f none v valuation =
    false_from_ne_true (is_true_at v f) (λ holds.
    some_least_true ds f v valuation holds (λ u least.
    none (record { readings = readings_of f u }) (record { valuation = u; least = least; shown = refl })))

-- one that is true nowhere has none
never_shown : (ds : List Domain) (f : Formula) (w : Witness) → IsUnsatisfiable ds f → IsWitness ds f w → ⊥
never_shown ds f w never h = false≢true (sym (never h.valuation h.least.valuation) ∙ h.least.holds)

both_sides : (n limit : ℕ) → n ≤ limit → limit < n → ⊥
both_sides n limit h k = omega (arith, h, k)

pub one_decision : (ds : List Domain) (limit : ℕ) (f : Formula) (a b : Decision) → IsDecided ds limit f a → IsDecided ds limit f b → a ≡ b
one_decision ds limit f Over Over h k = refl
one_decision ds limit f Over Unsatisfiable h k = absurd (both_sides _ limit k.0 h)
one_decision ds limit f Over (Satisfied w) h k = absurd (both_sides _ limit k.0 h)
one_decision ds limit f Unsatisfiable Over h k = absurd (both_sides _ limit h.0 k)
one_decision ds limit f Unsatisfiable Unsatisfiable h k = refl
one_decision ds limit f Unsatisfiable (Satisfied w) h k = absurd (never_shown ds f w h.1 k.1)
one_decision ds limit f (Satisfied w) Over h k = absurd (both_sides _ limit h.0 k)
one_decision ds limit f (Satisfied w) Unsatisfiable h k = absurd (never_shown ds f w k.1 h.1)
one_decision ds limit f (Satisfied w) (Satisfied u) h k = ap Satisfied (one_witness ds f w u h.1 k.1)

pub some_decision : (ds : List Domain) (limit : ℕ) (f : Formula) → ((d : Decision) → IsDecided ds limit f d → ⊥) → ⊥
some_decision ds limit f none =
    elim (cases_lt limit (nodes_listed ds (f ∷ []))) [
      | inl over ↦ none Over over
      | inr within ↦ none Unsatisfiable (within, no_witness ds f (λ w is. none (Satisfied w) (within, is)))
    ]
