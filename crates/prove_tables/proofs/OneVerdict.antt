-- A table has at most one verdict.
use Rattle.std.proofs.Common.{◌≡◌, ℕ, ◌+◌, ◌<◌, ◌≤◌, List, length, map, refl, sym, ap, subst, ◌∙◌, inl, inr, arith}
use Rattle.std.specs.Prelude.{slice_get}
use Rattle.std.proofs.lemmas.Bool.{cases_lt, cases_order, true≢false}
use Rattle.std.proofs.lemmas.Option.{slice_get_within}
use Rattle.dd_formula.specs.declared.domain.Domain.{Domain}
use Rattle.scr_depend.specs.Dependencies.{graph_of}
use Rattle.dd_formula.specs.declared.formula.Formula.{Formula}
use Rattle.prove_goals.specs.declared.goal.Goal.{Goal}
use Rattle.prove_goals.specs.Goals.{goals_of}
use Rattle.prove_goals.specs.Formulas.{goal_formula_of}
use Rattle.prove_decide.specs.declared.witness.Witness.{Witness}
use Rattle.prove_tables.specs.declared.verdict.Verdict.{Verdict}
use Rattle.prove_tables.specs.declared.verdict.Verdict.TheVariants.{Yes, No, Undecided}
use Rattle.prove_decide.specs.Levels.{level_domains}
use Rattle.prove_decide.specs.Readings.{IsWitness}
use Rattle.prove_decide.specs.InTurn.{ArePassed, FailsAt, PassesLimit}
use Rattle.prove_tables.specs.Verdicts.{FailsFirst, IsVerdict}
use Rattle.prove_tables.specs.Laws.{OneVerdict}
use Rattle.prove_decide.proofs.Counting.{listed_front}
use Rattle.prove_decide.proofs.OneDecision.{one_witness}
use Rattle.scr_depend.proofs.OneNeed.{one_need}
use Rattle.prove_decide.proofs.Progress.{Some-same}

module _ (ds : List Domain) (limit : ℕ) (fs : List Formula) where
  -- what passes does not fail
  passed_no : (n i : ℕ) (w : Witness) → ArePassed ds limit fs n → FailsAt ds limit fs i w → i < n → ⊥
  passed_no n i w passed fails lt =
      let least = fails.witness.least in
      true≢false (sym least.holds ∙ passed.unsatisfiable i fails.formula lt fails.there fails.witness.valuation least.valuation)

  -- and is within the limit
  passed_over : (n : ℕ) → ArePassed ds limit fs n → (over : PassesLimit ds limit fs) → over.number + 1 ≤ n → ⊥
  passed_over n passed over le = omega (arith, passed.within, over.over, listed_front ds fs (over.number + 1) n le)

  -- so is what fails
  fails_over : (i : ℕ) (w : Witness) → FailsAt ds limit fs i w → PassesLimit ds limit fs → ⊥
  fails_over i w fails over =
      elim (cases_lt i over.number) [
        | inl lt ↦ passed_no over.number i w over.before fails lt
        | inr le ↦
            let more = listed_front ds fs (over.number + 1) (i + 1) (omega (arith, le)) in
            omega (arith, fails.within, over.over, more)
      ]

  -- one formula is the first to fail
  one_place : (i j : ℕ) (w u : Witness) → FailsAt ds limit fs i w → FailsAt ds limit fs j u → i ≡ j
  one_place i j w u h k =
      elim (cases_order i j) [
        | inl same ↦ same
        | inr other ↦ absurd (elim other [ inl less ↦ passed_no j i w k.before h less | inr more ↦ passed_no i j u h.before k more ])
      ]

  one_failure : (i : ℕ) (w u : Witness) → FailsAt ds limit fs i w → FailsAt ds limit fs i u → w ≡ u
  one_failure i w u h k =
      one_witness ds h.formula w u h.witness (subst (λ f. IsWitness ds f u) (Some-same k.formula h.formula (sym k.there ∙ h.there)) k.witness)

module _ (ds : List Domain) (limit : ℕ) (goals : List Goal) (formula : Goal → Formula) where
  same_failure : (g k : Goal) (w u : Witness) → FailsFirst ds limit goals formula g w → FailsFirst ds limit goals formula k u → No g w ≡ No k u
  same_failure g k w u a b =
      let fs = map formula goals in
      let place = one_place ds limit fs a.number b.number w u a.fails b.fails in
      let goal : g ≡ k = Some-same g k (sym a.there ∙ ap (slice_get goals) place ∙ b.there) in
      let shown : w ≡ u = one_failure ds limit fs a.number w u a.fails (subst (λ n. FailsAt ds limit fs n u) (sym place) b.fails) in
      cc

  same_verdict : (a b : Verdict) → IsVerdict ds limit goals formula a → IsVerdict ds limit goals formula b → a ≡ b
  same_verdict Yes Yes h k = refl
  same_verdict Yes (No g w) h k = absurd (passed_no ds limit (map formula goals) (length (map formula goals)) k.number w h k.fails (slice_get_within (map formula goals) k.number k.fails.formula k.fails.there))
  same_verdict Yes Undecided h k = absurd (passed_over ds limit (map formula goals) (length (map formula goals)) h k (omega (arith, k.there)))
  same_verdict (No g w) Yes h k = absurd (passed_no ds limit (map formula goals) (length (map formula goals)) h.number w k h.fails (slice_get_within (map formula goals) h.number h.fails.formula h.fails.there))
  same_verdict (No g w) (No l u) h k = same_failure g l w u h k
  same_verdict (No g w) Undecided h k = absurd (fails_over ds limit (map formula goals) h.number w h.fails k)
  same_verdict Undecided Yes h k = absurd (passed_over ds limit (map formula goals) (length (map formula goals)) k h (omega (arith, h.there)))
  same_verdict Undecided (No g w) h k = absurd (fails_over ds limit (map formula goals) k.number w k.fails h)
  same_verdict Undecided Undecided h k = refl

pub one_verdict : OneVerdict
one_verdict = record {
  once = λ spec order v limit a b h k.
      same_verdict (level_domains spec) limit (goals_of spec v) (goal_formula_of spec order h.need v) a b h.verdict_is
      (subst (λ need. IsVerdict (level_domains spec) limit (goals_of spec v) (goal_formula_of spec order need v) b) (one_need (graph_of spec) v k.need h.need k.needed h.needed) k.verdict_is);
}
