-- Each table has a verdict.
use Rattle.std.proofs.Common.{◌≡◌, ℕ, zero, suc, ◌+◌, ◌<◌, List, [], ◌∷◌, length, map, take, refl, ap, ap₂, subst, ◌∙◌, inl, inr, arith}
use Rattle.std.specs.Prelude.{slice_get, Some}
use Rattle.std.specs.Option.{option_map}
use Rattle.std.proofs.lemmas.Bool.{cases_lt}
use Rattle.std.proofs.lemmas.List.{length-map}
use Rattle.std.proofs.lemmas.Option.{slice_get-map}
use Rattle.scr_spec.specs.Data.{Data}
use Rattle.dd_formula.specs.declared.domain.Domain.{Domain}
use Rattle.scr_spec.specs.declared.table.Table.{Table}
use Rattle.scr_depend.specs.Dependencies.{graph_of}
use Rattle.scr_depend.proofs.SomeNeed.{some_need}
use Rattle.dd_formula.specs.declared.formula.Formula.{Formula}
use Rattle.prove_goals.specs.declared.goal.Goal.{Goal}
use Rattle.prove_goals.specs.Goals.{goals_of}
use Rattle.prove_goals.specs.Formulas.{goal_formula_of}
use Rattle.prove_tables.specs.declared.verdict.Verdict.{Verdict}
use Rattle.prove_tables.specs.declared.verdict.Verdict.TheVariants.{Yes, No, Undecided}
use Rattle.prove_decide.specs.declared.witness.Witness.{Witness}
use Rattle.prove_decide.specs.Counts.{nodes, nodes_listed}
use Rattle.prove_decide.specs.Levels.{level_domains}
use Rattle.prove_decide.specs.Readings.{IsWitness}
use Rattle.prove_decide.specs.InTurn.{ArePassed}
use Rattle.prove_tables.specs.Verdicts.{IsVerdict, HasVerdict, HaveVerdicts}
use Rattle.prove_tables.specs.Laws.{SomeVerdict}
use Rattle.prove_tables.proofs.OneVerdict.{one_verdict}
use Rattle.prove_decide.proofs.Progress.{unsatisfiable_next}
use Rattle.prove_decide.proofs.OneDecision.{no_witness}

-- ---- of formulas

none_listed : (ds : List Domain) (fs : List Formula) → nodes_listed ds (take 0 fs) ≡ 0
unfolding nodes
none_listed ds fs = refl

none_passed : (ds : List Domain) (limit : ℕ) (fs : List Formula) → ArePassed ds limit fs 0
none_passed ds limit fs = record { within = omega (arith, none_listed ds fs); unsatisfiable = λ j f lt. absurd (omega arith) }

-- ---- of goals

-- within the list there is a member
member : {X : Type 0} (xs : List X) (i : ℕ) → i < length xs → (x : X) × (slice_get xs i ≡ Some x)
member [] i lt = absurd (omega arith)
member (x ∷ xs) zero lt = (x, refl)
member (x ∷ xs) (suc i) lt = member xs i (omega arith)

module _ (ds : List Domain) (limit : ℕ) (goals : List Goal) (formula : Goal → Formula) (none : (verdict : Verdict) → IsVerdict ds limit goals formula verdict → ⊥) where
  -- once the first i formulas have passed
  no_verdict_behind : (n i : ℕ) → n + i ≡ length goals → ArePassed ds limit (map formula goals) i → ⊥
  no_verdict_behind zero i e passed =
      let all : i ≡ length (map formula goals) = omega (arith, e, length-map goals formula) in
      none Yes (subst (ArePassed ds limit (map formula goals)) all passed)
  no_verdict_behind (suc n) i e passed =
      let goal : (g : Goal) × (slice_get goals i ≡ Some g) = member goals i (omega (arith, e)) in
      let there : slice_get (map formula goals) i ≡ Some (formula goal.0) = slice_get-map formula goals i ∙ ap (option_map formula) goal.1 in
      elim (cases_lt limit (nodes_listed ds (take (i + 1) (map formula goals)))) [
        | inl over ↦ none Undecided (record { number = i; there = omega (arith, e, length-map goals formula); before = passed; over = over })
        | inr within ↦
            let fails : (w : Witness) → IsWitness ds (formula goal.0) w → ⊥ = λ w witness.
            none (No goal.0 w) (record {
              number = i;
              there = goal.1;
              fails = record { before = passed; within = within; formula = formula goal.0; there = there; witness = witness };
            }) in
            no_verdict_behind n (i + 1) (omega (arith, e)) (record {
              within = within;
              unsatisfiable = unsatisfiable_next ds (map formula goals) i (formula goal.0) there passed.unsatisfiable (no_witness ds (formula goal.0) fails);
            })
      ]

-- ---- of tables

some_for : (spec : Data) (order : List ℕ) (v limit : ℕ) → ((verdict : Verdict) → HasVerdict spec order v limit verdict → ⊥) → ⊥
some_for spec order v limit none =
    some_need (graph_of spec) v (λ need needed.
    let ds : List Domain = level_domains spec in
    let formula : Goal → Formula = goal_formula_of spec order need v in
    no_verdict_behind ds limit (goals_of spec v) formula (λ verdict is. none verdict (record { need = need; needed = needed; verdict_is = is }))
    (length (goals_of spec v)) 0 (omega arith) (none_passed ds limit (map formula (goals_of spec v))))

module _ (spec : Data) (order : List ℕ) (limit : ℕ) where
  same_verdicts : (ts : List Table) (a b : List Verdict) → HaveVerdicts spec order limit ts a → HaveVerdicts spec order limit ts b → a ≡ b
  same_verdicts [] [] [] h k = refl
  same_verdicts [] [] (w ∷ b) h k = absurd k
  same_verdicts [] (v ∷ a) b h k = absurd h
  same_verdicts (t ∷ ts) [] b h k = absurd h
  same_verdicts (t ∷ ts) (v ∷ a) [] h k = absurd k
  same_verdicts (t ∷ ts) (v ∷ a) (w ∷ b) h k = ap₂ (λ z zs. z ∷ zs) (one_verdict.once spec order t.variable limit v w h.0 k.0) (same_verdicts ts a b h.1 k.1)

  some_verdicts : (ts : List Table) → ((verdicts : List Verdict) → HaveVerdicts spec order limit ts verdicts → ⊥) → ⊥
  some_verdicts [] none = none [] tt
  some_verdicts (t ∷ ts) none = some_for spec order t.variable limit (λ v h. some_verdicts ts (λ vs k. none (v ∷ vs) (h, k)))

pub some_verdict : SomeVerdict
some_verdict = record {
  some = some_for;
  all_once = λ spec order limit. same_verdicts spec order limit spec.tables;
  all_some = λ spec order limit. some_verdicts spec order limit spec.tables;
}
