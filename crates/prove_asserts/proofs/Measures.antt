-- The formula of a test has levels of the specification, and small measures.
use Rattle.std.proofs.Common.{◌≡◌, ℕ, Bool, true, false, List, [], ◌∷◌, ◌++◌, map, refl, ◌∙◌, IsTrue}
use Rattle.std.specs.List.{list_all, flat_map}
use Rattle.std.proofs.lemmas.Bool.{and_parts, and_from}
use Rattle.std.proofs.lemmas.List.Folds.{list_all-append}
use Rattle.scr_spec.specs.Data.{Data}
use Rattle.scr_spec.specs.Sound.{IsSound}
use Rattle.scr_spec.specs.declared.cond.Cond.{Cond}
use Rattle.scr_spec.specs.Over.{is_cond_over}
use Rattle.scr_spec.specs.Relations.{is_monitored}
use Rattle.scr_spec.specs.Tables.{is_class_at}
use Rattle.dd_formula.specs.declared.formula.Formula.TheVariants.{And}
use Rattle.dd_formula.specs.Measure.{all_atoms}
use Rattle.prove_formula.specs.Measure.{greatest_measure, is_atom_over, IsOver}
use Rattle.prove_formula.specs.Conditions.{condition_formula, pair_formula}
use Rattle.dd_formula.proofs.FormulaLaws.{all_atoms-And}
use Rattle.prove_formula.specs.declared.side.Reading.TheVariants.{Across}
use Rattle.prove_formula.proofs.ConditionMeasure.{over_not, over_condition_formula, over_formula_read}
use Rattle.prove_formula.proofs.FrozenLaws.{frozen_bounds}
use Rattle.prove_goals.specs.Pairs.{need_formulas, change_formula}
use Rattle.prove_goals.proofs.Members.{all_flat}
use Rattle.prove_goals.proofs.PairMeasure.{need_over, over_change_formula}
use Rattle.prove_candidates.specs.Candidates.{is_candidate_over}
use Rattle.prove_invariants.specs.declared.derived.Found.{Found}
use Rattle.prove_invariants.specs.Formulas.{candidate_formula}
use Rattle.prove_invariants.proofs.Narrow.{over_candidate}
use Rattle.scr_resolve_asserts.specs.declared.assertion.Assertion.{Assertion}
use Rattle.prove_asserts.specs.declared.lemma.Lemma.{Lemma}
use Rattle.prove_asserts.specs.Claims.{is_lemma_over, AreLemmasOver}
use Rattle.prove_asserts.specs.Formulas.{broken_formulas, lemma_formulas, lemmas_formulas, known_formulas, full_formulas, common_formulas, test_formula}

module _ (spec : Data) (sound : IsSound spec) where
  over_broken : (two : Bool) (c : Cond) → IsTrue (is_cond_over spec c) → list_all (all_atoms (is_atom_over spec)) (broken_formulas spec two c) ≡ true
  over_broken false c h =
      and_from _ _ (over_not spec (condition_formula spec true c) (over_condition_formula spec true sound c h)) (and_from _ true (over_condition_formula spec false sound c h) refl)
  over_broken true c h = and_from _ true (over_not spec (pair_formula spec c) (over_formula_read spec Across sound c h)) refl

  over_found : (new : Bool) (class : ℕ) → IsTrue (is_class_at spec class) → (fs : List Found) → IsTrue (list_all (λ (f : Found). is_candidate_over spec class f.candidate) fs)
      → list_all (all_atoms (is_atom_over spec)) (map (λ (f : Found). candidate_formula spec new class f.candidate) fs) ≡ true
  over_found new class is_class [] h = refl
  over_found new class is_class (f ∷ fs) h =
      let both = and_parts (is_candidate_over spec class f.candidate) (list_all (λ (g : Found). is_candidate_over spec class g.candidate) fs) h in
      and_from _ _ (over_candidate spec class sound is_class new f.candidate both.0) (over_found new class is_class fs both.1)

  over_lemmas : (new : Bool) (ls : List Lemma) → AreLemmasOver spec ls → list_all (all_atoms (is_atom_over spec)) (lemmas_formulas spec new ls) ≡ true
  over_lemmas new [] h = refl
  over_lemmas new (l ∷ ls) h =
      let both = and_parts (is_lemma_over spec l) (list_all (is_lemma_over spec) ls) h in
      let here = and_parts (is_class_at spec l.class) (list_all (λ (f : Found). is_candidate_over spec l.class f.candidate) l.found) both.0 in
      list_all-append (all_atoms (is_atom_over spec)) (lemma_formulas spec new l) (lemmas_formulas spec new ls)
      ∙ and_from _ _ (over_found new l.class here.0 l.found here.1) (over_lemmas new ls both.1)

  over_full : (order : List ℕ) (x : ℕ) → IsTrue (is_monitored spec x) → list_all (all_atoms (is_atom_over spec)) (full_formulas spec order x) ≡ true
  over_full order x h =
      list_all-append (all_atoms (is_atom_over spec)) (flat_map (need_formulas spec) order) (change_formula spec x ∷ [])
      ∙ and_from _ _ (all_flat (all_atoms (is_atom_over spec)) (need_formulas spec) (need_over spec sound) order) (and_from _ true (over_change_formula spec x sound h) refl)

  over_common : (order : List ℕ) (ls : List Lemma) (x : ℕ) → AreLemmasOver spec ls → IsTrue (is_monitored spec x) → list_all (all_atoms (is_atom_over spec)) (common_formulas spec order ls x) ≡ true
  over_common order ls x known h =
      let p = all_atoms (is_atom_over spec) in
      list_all-append p (known_formulas spec ls) (full_formulas spec order x)
      ∙ and_from _ _ (list_all-append p (lemmas_formulas spec false ls) (lemmas_formulas spec true ls) ∙ and_from _ _ (over_lemmas false ls known) (over_lemmas true ls known)) (over_full order x h)

  pub over_test : (order : List ℕ) (ls : List Lemma) (a : Assertion) (x : ℕ) → AreLemmasOver spec ls → IsTrue (is_cond_over spec a.cond) → IsTrue (is_monitored spec x) → IsOver spec (test_formula spec order ls a x)
  over_test order ls a x known over h =
      let p = all_atoms (is_atom_over spec) in
      let bs = broken_formulas spec a.two a.cond in
      let cs = common_formulas spec order ls x in
      frozen_bounds spec x (And (bs ++ cs)) greatest_measure ∙ all_atoms-And (is_atom_over spec) (bs ++ cs) ∙ list_all-append p bs cs
      ∙ and_from _ _ (over_broken a.two a.cond over) (over_common order ls x known h)
