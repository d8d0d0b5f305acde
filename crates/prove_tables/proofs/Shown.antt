-- The witness of a no shows a pair at which its goal is not met.
use Rattle.std.proofs.Common.{◌≡◌, ℕ, ◌*◌, ◌<ℤ◌, true, List, [], ◌∷◌, length, Some, sym, ap, subst, ◌∙◌}
use Rattle.std.specs.Prelude.{slice_get}
use Rattle.std.specs.List.{All, AllByRecursion as Each, range_with_len}
use Rattle.std.proofs.lemmas.Option.{slice_get_within, get_or_from_slice_get}
use Rattle.scr_spec.specs.Data.{Data}
use Rattle.scr_spec.specs.declared.table.Table.{Table}
use Rattle.scr_spec.specs.Meaning.{Codes}
use Rattle.scr_spec.specs.Relations.{table_of}
use Rattle.scr_spec.specs.Sound.{IsSound}
use Rattle.scr_spec.proofs.Kept.{rules_kept}
use Rattle.dd_formula.specs.declared.formula.Formula.{Formula}
use Rattle.dd_formula.specs.Measure.{all_atoms}
use Rattle.scr_depend.specs.Dependencies.{graph_of}
use Rattle.scr_depend.specs.Orders.{IsOrder}
use Rattle.scr_depend.specs.Needs.{IsNeed}
use Rattle.prove_goals.specs.declared.goal.Goal.{Goal}
use Rattle.prove_goals.specs.Goals.{goals_of}
use Rattle.prove_goals.specs.Formulas.{goal_formula_of}
use Rattle.prove_formula.specs.Solutions.{IsSolution}
use Rattle.prove_goals.specs.Violated.{is_told, levels_pass, IsViolatedAt, IsShown}
use Rattle.prove_goals.proofs.Decide.{goals_tell}
use Rattle.prove_decide.specs.declared.witness.Reading.{Reading}
use Rattle.prove_decide.specs.declared.witness.Witness.{Witness}
use Rattle.prove_tables.specs.declared.verdict.Verdict.{Verdict}
use Rattle.prove_tables.specs.declared.verdict.Verdict.TheVariants.{Yes, No, Undecided}
use Rattle.prove_decide.specs.Readings.{occurs}
use Rattle.prove_tables.specs.Verdicts.{HasVerdict, HaveVerdicts, AreVerdicts}
use Rattle.prove_formula.specs.Levels.{valuation_of}
use Rattle.prove_decide.specs.Pairs.{pair_reading}
use Rattle.prove_tables.specs.Laws.{IsWitnessOf, IsFirstNotMet, IsRightVerdict, AreRightVerdicts, VerdictsTell}
use Rattle.prove_decide.proofs.PassingLevels.{occurs_passes, same_filtered}
use Rattle.prove_decide.proofs.Solutions.{no_solution, IsShownBy}
use Rattle.prove_tables.proofs.Telling.{mapped_get, told_no}
use Rattle.prove_tables.proofs.Right.{yes_right, IsOwn, own_tables}

-- a fact of all members is one of a member that is looked up
member_of : {X : Type 0} (P : X → Type 0) (xs : List X) (i : ℕ) (x : X) → All P xs → slice_get xs i ≡ Some x → P x
member_of P xs i x all e = subst P (get_or_from_slice_get xs i x x e) (all i x (slice_get_within xs i x e))

pub told_violation : (spec : Data) (order need : List ℕ) (v limit : ℕ) (table : Table) (goal : Goal) (w : Witness) → IsSound spec → IsOrder (graph_of spec) order → IsNeed (graph_of spec) v need → table_of spec v ≡ Some table
    → HasVerdict spec order v limit (No goal w) → IsWitnessOf spec table goal (goal_formula_of spec order need v goal) w
told_violation spec order need v limit table goal w sound ordered needed found h =
    let f = goal_formula_of spec order need v goal in
    let by : IsShownBy spec f w = told_no spec order need v limit goal w needed h in
    let first = h.verdict_is in
    let IsTold : Goal → Type 0 = λ g. (s t : Codes) → IsSolution spec (goal_formula_of spec order need v g) s t → IsShown spec table g s t in
    let HasTold : Goal → Type 0 = λ g. all_atoms (levels_pass (is_told spec g.changed)) (goal_formula_of spec order need v g) ≡ true in
    let shown = member_of IsTold (goals_of spec v) first.number goal (goals_tell.shown spec order need v table sound ordered needed found) first.there by.old by.new by.solution in
    let IsAnswered : Goal → Type 0 = λ g. (s t : Codes) → IsViolatedAt spec table g s t → IsSolution spec (goal_formula_of spec order need v g) s t in
    let answered = member_of IsAnswered (goals_of spec v) first.number goal (goals_tell.solved spec order need v table ordered needed found) first.there in
    let levels = member_of HasTold (goals_of spec v) first.number goal (goals_tell.levels spec order need v) first.there in
    let same : (l : ℕ) → occurs l f ≡ true → valuation_of by.old shown.new l ≡ valuation_of by.old by.new l = λ l there. shown.told l (occurs_passes l (is_told spec goal.changed) f there levels) in
    record {
      old = by.old;
      new = shown.new;
      violated = shown.violated;
      least = λ s t wrong b. by.least s t (answered s t wrong) (record {
        level = b.level;
        there = b.there;
        same = λ l lt there. b.same l lt there ∙ same l there;
        less = subst (λ z. valuation_of s t b.level <ℤ z) (same b.level b.there) b.less;
      });
      shown =
          by.shown
          ∙ same_filtered (λ level. occurs level f) (pair_reading by.old by.new) (pair_reading by.old shown.new)
          (λ l there. ap (λ z. let r : Reading = record { level = l; code = z } in r) (sym (same l there)))
          (range_with_len 0 (2 * length spec.variables));
    }

-- ---- the first goal that is not met

first_not_met : (spec : Data) (order : List ℕ) (v limit : ℕ) (table : Table) (goal : Goal) (w : Witness) → IsOrder (graph_of spec) order → table_of spec v ≡ Some table → HasVerdict spec order v limit (No goal w)
    → IsFirstNotMet spec table (goals_of spec v) goal
first_not_met spec order v limit table goal w ordered found h =
    let first = h.verdict_is in
    let goals = goals_of spec v in
    let formula : Goal → Formula = goal_formula_of spec order h.need v in
    let IsAnswered : Goal → Type 0 = λ g. (s t : Codes) → IsViolatedAt spec table g s t → IsSolution spec (formula g) s t in
    record {
      number = first.number;
      there = first.there;
      before = λ k g lt there s t wrong.
          no_solution spec (formula g) (first.fails.before.unsatisfiable k (formula g) lt (mapped_get formula goals k g there)) s t
          (member_of IsAnswered goals k g (goals_tell.solved spec order h.need v table ordered h.needed found) there s t wrong);
    }

-- ---- the verdicts on all tables

module _ (spec : Data) (order : List ℕ) (limit : ℕ) (sound : IsSound spec) (is : IsOrder (graph_of spec) order) where
  right_verdict : (t : Table) (v : Verdict) → IsOwn spec.tables t → HasVerdict spec order t.variable limit v → IsRightVerdict spec order t v
  right_verdict t Yes own h = yes_right spec order t.variable limit t sound is own h
  right_verdict t (No goal w) own h = record {
    need = h.need;
    needed = h.needed;
    first = first_not_met spec order t.variable limit t goal w is own h;
    least = told_violation spec order h.need t.variable limit t goal w sound is h.needed own h;
  }
  right_verdict t Undecided own h = tt

  right_verdicts : (ts : List Table) (vs : List Verdict) → Each (IsOwn spec.tables) ts → HaveVerdicts spec order limit ts vs → AreRightVerdicts spec order ts vs
  right_verdicts [] [] own h = tt
  right_verdicts [] (v ∷ vs) own h = absurd h
  right_verdicts (t ∷ ts) [] own h = absurd h
  right_verdicts (t ∷ ts) (v ∷ vs) own h = (right_verdict t v own.0 h.0, right_verdicts ts vs own.1 h.1)

all_told : (spec : Data) (order : List ℕ) (limit : ℕ) (verdicts : List Verdict) → IsSound spec → IsOrder (graph_of spec) order → AreVerdicts spec order limit verdicts
    → AreRightVerdicts spec order spec.tables verdicts
all_told spec order limit verdicts sound is are =
    right_verdicts spec order limit sound is spec.tables verdicts (own_tables spec.tables (rules_kept spec sound).tabled.one_table) are

pub verdicts_tell : VerdictsTell
verdicts_tell = record { yes = yes_right; no = told_violation; first = first_not_met; all = all_told }
