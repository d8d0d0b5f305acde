-- The formula of a test is true exactly where a change breaks the assertion.
use Rattle.std.proofs.Common.{◌≡◌, ℕ, ◌*◌, ◌-◌, ◌<ℤ◌, Bool, true, false, not, ◌&&◌, List, [], ◌∷◌, ◌++◌, map, length, refl, sym, ap, ap₂, subst, ◌∙◌, IsTrue}
use Rattle.std.specs.Prelude.{Ok, if◌then◌else◌}
use Rattle.std.specs.List.{list_all, range_with_len}
use Rattle.std.proofs.lemmas.Bool.{and_parts, and_from, false≢true}
use Rattle.std.proofs.lemmas.List.Folds.{list_all-append}
use Rattle.scr_spec.specs.Data.{Data}
use Rattle.scr_spec.specs.Sound.{IsSound}
use Rattle.scr_spec.specs.declared.cond.Cond.{Cond}
use Rattle.scr_spec.specs.Meaning.{Codes, is_true}
use Rattle.scr_spec.specs.Domains.{IsTyped}
use Rattle.scr_spec.specs.Relations.{is_monitored, KeepsOthers}
use Rattle.dd_formula.specs.declared.formula.Formula.{Formula}
use Rattle.dd_formula.specs.declared.formula.Formula.TheVariants.{Not, And}
use Rattle.dd_formula.specs.Truth.{holds_at}
use Rattle.prove_formula.specs.Levels.{valuation_of, at_of}
use Rattle.prove_formula.specs.Conditions.{condition_formula, pair_formula}
use Rattle.prove_formula.specs.Between.{is_true_between}
use Rattle.prove_formula.specs.Frozen.{is_frozen, HasTruthWhereKept}
use Rattle.dd_formula.proofs.FormulaLaws.{holds_at-And}
use Rattle.dd_formula.proofs.JoinTruth.{holds_at-negation}
use Rattle.prove_formula.proofs.ConditionTruth.{holds_at-condition_formula, holds_at-pair_formula}
use Rattle.prove_formula.proofs.FrozenLaws.{holds_at-frozen, truth_ok}
use Rattle.scr_depend.specs.Dependencies.{graph_of}
use Rattle.scr_depend.specs.Orders.{IsOrder}
use Rattle.prove_formula.specs.Solutions.{IsSolution}
use Rattle.prove_decide.specs.Levels.{level_domains}
use Rattle.prove_decide.specs.Least.{IsUnsatisfiable}
use Rattle.prove_decide.specs.declared.witness.Reading.{Reading}
use Rattle.prove_decide.specs.declared.witness.Witness.{Witness}
use Rattle.prove_decide.specs.Readings.{occurs, IsWitness}
use Rattle.prove_decide.specs.Pairs.{pair_reading}
use Rattle.prove_decide.proofs.PassingLevels.{occurs_passes, same_filtered}
use Rattle.prove_decide.proofs.Solutions.{no_solution, shows_solution}
use Rattle.prove_goals.proofs.Mixed.{mixed, mixed_typed, mixed_keeps, mixed_level}
use Rattle.prove_goals.proofs.ToldLevels.{frozen_told}
use Rattle.prove_invariants.specs.declared.derived.Found.{Found}
use Rattle.prove_invariants.specs.Holds.{holds_in}
use Rattle.prove_invariants.specs.Formulas.{candidate_formula}
use Rattle.prove_invariants.proofs.Breaks.{candidate_tells}
use Rattle.scr_resolve_asserts.specs.declared.assertion.Assertion.{Assertion}
use Rattle.prove_asserts.specs.declared.lemma.Lemma.{Lemma}
use Rattle.prove_asserts.specs.Claims.{lemmas_hold, IsBroken, IsBrokenAt}
use Rattle.prove_asserts.specs.Formulas.{broken_formulas, lemma_formulas, lemmas_formulas, known_formulas, full_formulas, test_formula}
use Rattle.prove_asserts.specs.Laws.{ShowsBreak, TestsTell}
use Rattle.prove_asserts.proofs.Pairs.{full_told, full_parts}

not_true : (b : Bool) → not b ≡ true → b ≡ false
not_true true h = absurd (false≢true h)
not_true false h = refl

module _ (spec : Data) (s t : Codes) where
  found_tell : (new : Bool) (class : ℕ) (fs : List Found) → list_all (holds_at (valuation_of s t)) (map (λ (f : Found). candidate_formula spec new class f.candidate) fs) ≡ list_all (λ (f : Found). holds_in spec class (at_of new s t) f.candidate) fs
  found_tell new class [] = refl
  found_tell new class (f ∷ fs) = ap₂ (λ a b. a && b) (candidate_tells spec class s t new f.candidate) (found_tell new class fs)

  pub lemmas_tell : (new : Bool) (ls : List Lemma) → list_all (holds_at (valuation_of s t)) (lemmas_formulas spec new ls) ≡ lemmas_hold spec ls (at_of new s t)
  lemmas_tell new [] = refl
  lemmas_tell new (l ∷ ls) =
      list_all-append (holds_at (valuation_of s t)) (lemma_formulas spec new l) (lemmas_formulas spec new ls) ∙ ap₂ (λ a b. a && b) (found_tell new l.class l.found) (lemmas_tell new ls)

  known_from : (ls : List Lemma) → IsTrue (lemmas_hold spec ls s) → IsTrue (lemmas_hold spec ls t) → list_all (holds_at (valuation_of s t)) (known_formulas spec ls) ≡ true
  known_from ls before after =
      list_all-append (holds_at (valuation_of s t)) (lemmas_formulas spec false ls) (lemmas_formulas spec true ls)
      ∙ and_from _ _ (lemmas_tell false ls ∙ before) (lemmas_tell true ls ∙ after)

  broken_from : (two : Bool) (c : Cond) → IsBroken spec two c s t → list_all (holds_at (valuation_of s t)) (broken_formulas spec two c) ≡ true
  broken_from false c b =
      and_from _ _ (holds_at-negation (valuation_of s t) (condition_formula spec true c) (is_true spec t c) (holds_at-condition_formula spec s t true c) ∙ ap not b.1)
      (and_from _ true (holds_at-condition_formula spec s t false c ∙ b.0) refl)
  broken_from true c b =
      and_from _ true (holds_at-negation (valuation_of s t) (pair_formula spec c) (is_true_between spec s t c) (holds_at-pair_formula spec s t c) ∙ ap not b) refl

  known_parts : (ls : List Lemma) → list_all (holds_at (valuation_of s t)) (known_formulas spec ls) ≡ true → IsTrue (lemmas_hold spec ls s) × IsTrue (lemmas_hold spec ls t)
  known_parts ls h =
      let v = holds_at (valuation_of s t) in
      let both = and_parts (list_all v (lemmas_formulas spec false ls)) (list_all v (lemmas_formulas spec true ls)) (sym (list_all-append v (lemmas_formulas spec false ls) (lemmas_formulas spec true ls)) ∙ h) in
      (sym (lemmas_tell false ls) ∙ both.0, sym (lemmas_tell true ls) ∙ both.1)

  broken_parts : (two : Bool) (c : Cond) → list_all (holds_at (valuation_of s t)) (broken_formulas spec two c) ≡ true → IsBroken spec two c s t
  broken_parts false c h =
      let v = holds_at (valuation_of s t) in
      let after = condition_formula spec true c in
      let before = condition_formula spec false c in
      let both = and_parts (v (Not after)) (v before && true) h in
      let last = and_parts (v before) true both.1 in (
        sym (holds_at-condition_formula spec s t false c) ∙ last.0,
        not_true (is_true spec t c) (sym (holds_at-negation (valuation_of s t) after (is_true spec t c) (holds_at-condition_formula spec s t true c)) ∙ both.0),
      )
  broken_parts true c h =
      let v = holds_at (valuation_of s t) in
      let both = and_parts (v (Not (pair_formula spec c))) true h in
      not_true (is_true_between spec s t c) (sym (holds_at-negation (valuation_of s t) (pair_formula spec c) (is_true_between spec s t c) (holds_at-pair_formula spec s t c)) ∙ both.0)

module _ (spec : Data) (order : List ℕ) (lemmas : List Lemma) (a : Assertion) (x : ℕ) (sound : IsSound spec) (ordered : IsOrder (graph_of spec) order) where
  abbrev own : List Formula
  own = broken_formulas spec a.two a.cond

  abbrev known : List Formula
  known = known_formulas spec lemmas

  abbrev full : List Formula
  full = full_formulas spec order x

  abbrev test : Formula
  test = test_formula spec order lemmas a x

  -- the members are all true exactly where the change breaks the assertion
  members_from : (s t : Codes) → IsBrokenAt spec lemmas a x s t → holds_at (valuation_of s t) (And (own ++ (known ++ full))) ≡ true
  members_from s t b =
      let v = holds_at (valuation_of s t) in
      holds_at-And (valuation_of s t) (own ++ (known ++ full)) ∙ list_all-append v own (known ++ full)
      ∙ and_from _ _ (broken_from spec s t a.two a.cond b.broken)
      (list_all-append v known full ∙ and_from _ _ (known_from spec s t lemmas b.known_before b.known_after) (full_told spec order x sound ordered s t b.pair))

  members_parts : IsTrue (is_monitored spec x) → (s t : Codes) → IsTyped spec s → IsTyped spec t → KeepsOthers spec x s t → holds_at (valuation_of s t) (And (own ++ (known ++ full))) ≡ true → IsBrokenAt spec lemmas a x s t
  members_parts monitored s t old new keeps h =
      let v = holds_at (valuation_of s t) in
      let both = and_parts (list_all v own) (list_all v (known ++ full)) (sym (list_all-append v own (known ++ full)) ∙ sym (holds_at-And (valuation_of s t) (own ++ (known ++ full))) ∙ h) in
      let rest = and_parts (list_all v known) (list_all v full) (sym (list_all-append v known full) ∙ both.1) in
      let lemmas_there = known_parts spec s t lemmas rest.0 in
      record {
        pair = full_parts spec order x sound ordered s t monitored old new keeps rest.1;
        known_before = lemmas_there.0;
        known_after = lemmas_there.1;
        broken = broken_parts spec s t a.two a.cond both.0;
      }

  kept_truth : HasTruthWhereKept spec x (And (own ++ (known ++ full))) test
  kept_truth = truth_ok spec x (And (own ++ (known ++ full))) (Ok test) refl

  pub solved : (s t : Codes) → IsBrokenAt spec lemmas a x s t → IsSolution spec test s t
  solved s t b = record { old = b.pair.old_typed; new = b.pair.new_typed; truth = kept_truth s t b.pair.others ∙ members_from s t b }

  breaks : IsTrue (is_monitored spec x) → (s t : Codes) → KeepsOthers spec x s t → IsSolution spec test s t → IsBrokenAt spec lemmas a x s t
  breaks monitored s t keeps sol = members_parts monitored s t sol.old sol.new keeps (sym (kept_truth s t keeps) ∙ sol.truth)

  pub unbroken : IsUnsatisfiable (level_domains spec) test → (s t : Codes) → IsBrokenAt spec lemmas a x s t → ⊥
  unbroken none s t b = no_solution spec test none s t (solved s t b)

  -- ---- the least change

  -- at any solution the other monitored variables can be taken to keep their codes
  breaks_mixed : IsTrue (is_monitored spec x) → (s t : Codes) → IsSolution spec test s t → IsBrokenAt spec lemmas a x s (mixed spec x s t)
  breaks_mixed monitored s t sol =
      let u = mixed spec x s t in
      members_parts monitored s u sol.old (mixed_typed spec x s t sol.old sol.new) (mixed_keeps spec x s t)
      (sym (holds_at-frozen spec x (valuation_of s t) (valuation_of s u) (mixed_level spec x s t sol.new) (And (own ++ (known ++ full)))) ∙ sol.truth)

  -- which makes no level that occurs another
  thawed : (level : ℕ) → occurs level test ≡ true → is_frozen spec x level ≡ false
  thawed level there = not_true (is_frozen spec x level) (occurs_passes level (λ l. not (is_frozen spec x l)) test there (frozen_told spec x (And (own ++ (known ++ full)))))

  same_level : (s t : Codes) → IsTyped spec t → (level : ℕ) → occurs level test ≡ true → valuation_of s (mixed spec x s t) level ≡ valuation_of s t level
  same_level s t new level there =
      sym (mixed_level spec x s t new level) ∙ ap (λ b. valuation_of s t (if b then level - 1 else level)) (thawed level there)

  pub shows : IsTrue (is_monitored spec x) → (w : Witness) → IsWitness (level_domains spec) test w → ShowsBreak spec order lemmas a x w
  shows monitored w is =
      let by = shows_solution spec test w is in
      let u = mixed spec x by.old by.new in
      let same : (l : ℕ) → occurs l test ≡ true → valuation_of by.old u l ≡ valuation_of by.old by.new l = same_level by.old by.new by.solution.new in
      record {
        old = by.old;
        new = u;
        broken = breaks_mixed monitored by.old by.new by.solution;
        least = λ s t b before. by.least s t (solved s t b) (record {
          level = before.level;
          there = before.there;
          same = λ l lt there. before.same l lt there ∙ same l there;
          less = subst (λ z. valuation_of s t before.level <ℤ z) (same before.level before.there) before.less;
        });
        shown =
            by.shown
            ∙ same_filtered (λ level. occurs level test) (pair_reading by.old by.new) (pair_reading by.old u)
            (λ l there. ap (λ z. let r : Reading = record { level = l; code = z } in r) (sym (same l there)))
            (range_with_len 0 (2 * length spec.variables));
      }

pub tests_tell : TestsTell
tests_tell = record {
  tell = λ spec order lemmas a x sound ordered monitored s t keeps. (breaks spec order lemmas a x sound ordered monitored s t keeps, solved spec order lemmas a x sound ordered s t);
  never = λ spec order lemmas a x sound ordered. unbroken spec order lemmas a x sound ordered;
  shows = λ spec order lemmas a x w sound ordered monitored is. shows spec order lemmas a x sound ordered monitored w is;
}
