-- The formula of a test has a solution exactly where some change breaks the candidate.
use Rattle.std.proofs.Common.{◌≡◌, ℕ, Bool, true, false, not, ◌&&◌, ◌||◌, List, [], ◌∷◌, ◌++◌, map, refl, sym, ap, ap₂, ◌∙◌, IsTrue}
use Rattle.std.specs.Prelude.{IfOk, Result, Ok, Err}
use Rattle.std.specs.Ordering.{int_eq}
use Rattle.std.specs.List.{list_all, filter, flat_map}
use Rattle.std.proofs.lemmas.Bool.{and_parts, and_from}
use Rattle.std.proofs.lemmas.List.Folds.{list_all-append}
use Rattle.base.specs.declared.memory.NoMemory.{NoMemory}
use Rattle.scr_spec.specs.Data.{Data}
use Rattle.scr_spec.specs.Meaning.{Codes, code_of, is_true}
use Rattle.scr_spec.specs.Relations.{meets_relation}
use Rattle.dd_formula.specs.declared.formula.Formula.{Formula}
use Rattle.dd_formula.specs.declared.formula.Formula.TheVariants.{Not, And}
use Rattle.dd_formula.specs.Truth.{holds_at}
use Rattle.prove_formula.specs.Levels.{valuation_of, at_of}
use Rattle.prove_formula.specs.Conditions.{has_code, condition_formula}
use Rattle.prove_formula.specs.Tables.{relation_formula}
use Rattle.prove_formula.specs.Frozen.{HasTruthWhereKept}
use Rattle.dd_formula.proofs.FormulaLaws.{holds_at-And}
use Rattle.dd_formula.proofs.JoinTruth.{holds_at-either, holds_at-negation}
use Rattle.prove_formula.proofs.ConditionTruth.{holds_at-has_code, holds_at-condition_formula}
use Rattle.prove_formula.proofs.TableTruth.{relation_truth_ok}
use Rattle.prove_formula.proofs.FrozenLaws.{holds_at-frozen, truth_ok}
use Rattle.scr_depend.specs.Graphs.{is_among}
use Rattle.scr_depend.specs.Dependencies.{graph_of}
use Rattle.scr_depend.specs.Orders.{IsOrder}
use Rattle.scr_depend.specs.Needs.{IsNeed}
use Rattle.prove_goals.specs.Pairs.{need_formulas, change_formula, pair_formulas}
use Rattle.prove_formula.specs.Solutions.{IsSolution}
use Rattle.prove_goals.proofs.PairTruth.{pairs_tell}
use Rattle.prove_goals.proofs.Mixed.{mixed, mixed_typed, mixed_keeps, mixed_level}
use Rattle.prove_candidates.specs.declared.candidate.Candidate.{Candidate}
use Rattle.prove_decide.specs.Levels.{level_domains}
use Rattle.prove_decide.specs.Least.{IsUnsatisfiable}
use Rattle.prove_decide.proofs.Solutions.{no_solution}
use Rattle.prove_invariants.specs.Formulas.{candidate_formula, HasTruthOfCandidate, before_formula, broken_formulas, moved_formulas, test_formula}
use Rattle.prove_invariants.specs.Holds.{holds_in, IsBrokenAt, IsKeptBy}

fails_from : (a b : Bool) → a ≡ true → not b ≡ true → (not a || b) ≡ false
fails_from true true h k = cc
fails_from true false h k = refl
fails_from false b h k = cc

fails_parts : (a b : Bool) → (not a || b) ≡ false → (a ≡ true) × (not b ≡ true)
fails_parts true true h = cc
fails_parts true false h = (refl, refl)
fails_parts false b h = cc

pub candidate_tells : (spec : Data) (class : ℕ) (s t : Codes) (new : Bool) (c : Candidate) → holds_at (valuation_of s t) (candidate_formula spec new class c) ≡ holds_in spec class (at_of new s t) c
candidate_tells spec class s t new c =
    holds_at-either (valuation_of s t) (Not (has_code new class c.mode)) (condition_formula spec new c.cond) (not (int_eq (code_of (at_of new s t) class) c.mode)) (is_true spec (at_of new s t) c.cond)
    (holds_at-negation (valuation_of s t) (has_code new class c.mode) (int_eq (code_of (at_of new s t) class) c.mode) (holds_at-has_code s t new class c.mode))
    (holds_at-condition_formula spec s t new c.cond)

-- the law of the call
pub candidate_truth_ok : (spec : Data) (new : Bool) (class : ℕ) (c : Candidate) (r : Result Formula NoMemory) → IfOk r (λ f. f ≡ candidate_formula spec new class c)
    → IfOk r (λ f. HasTruthOfCandidate spec new class c f)
candidate_truth_ok spec new class c (Ok f) e = λ s t. ap (holds_at (valuation_of s t)) e ∙ candidate_tells spec class s t new c
candidate_truth_ok spec new class c (Err z) e = e

module _ (spec : Data) (class : ℕ) (s t : Codes) where
  before_tells : (c : Candidate) → holds_at (valuation_of s t) (before_formula spec class c) ≡ holds_in spec class s c
  before_tells c = candidate_tells spec class s t false c

  known_tells : (known : List Candidate) → list_all (holds_at (valuation_of s t)) (map (before_formula spec class) known) ≡ list_all (holds_in spec class s) known
  known_tells [] = refl
  known_tells (c ∷ cs) = ap₂ (λ a b. a && b) (before_tells c) (known_tells cs)

  mode_tells : (c : Candidate) → holds_at (valuation_of s t) (has_code true class c.mode) ≡ int_eq (code_of t class) c.mode
  mode_tells c = holds_at-has_code s t true class c.mode

  cond_tells : (c : Candidate) → holds_at (valuation_of s t) (Not (condition_formula spec true c.cond)) ≡ not (is_true spec t c.cond)
  cond_tells c = holds_at-negation (valuation_of s t) (condition_formula spec true c.cond) (is_true spec t c.cond) (holds_at-condition_formula spec s t true c.cond)

  -- the candidate holds before, with all that is known, and not after
  record Fails (known : List Candidate) (c : Candidate) : Type 0 where
    known_before : IsTrue (list_all (holds_in spec class s) known)
    before : IsTrue (holds_in spec class s c)
    after : holds_in spec class t c ≡ false

  broken_from : (known : List Candidate) (c : Candidate) → Fails known c → list_all (holds_at (valuation_of s t)) (broken_formulas spec class known c) ≡ true
  broken_from known c f =
      let after = fails_parts (int_eq (code_of t class) c.mode) (is_true spec t c.cond) f.after in
      and_from _ _ (mode_tells c ∙ after.0) (and_from _ _ (cond_tells c ∙ after.1) (and_from _ _ (before_tells c ∙ f.before) (known_tells known ∙ f.known_before)))

  broken_parts : (known : List Candidate) (c : Candidate) → list_all (holds_at (valuation_of s t)) (broken_formulas spec class known c) ≡ true → Fails known c
  broken_parts known c h =
      let v = holds_at (valuation_of s t) in
      let rest = map (before_formula spec class) known in
      let one = and_parts (v (has_code true class c.mode)) (list_all v (Not (condition_formula spec true c.cond) ∷ before_formula spec class c ∷ rest)) h in
      let two = and_parts (v (Not (condition_formula spec true c.cond))) (list_all v (before_formula spec class c ∷ rest)) one.1 in
      let three = and_parts (v (before_formula spec class c)) (list_all v rest) two.1 in
      record {
        known_before = sym (known_tells known) ∙ three.1;
        before = sym (before_tells c) ∙ three.0;
        after = fails_from (int_eq (code_of t class) c.mode) (is_true spec t c.cond) (sym (mode_tells c) ∙ one.0) (sym (cond_tells c) ∙ two.0);
      }

module _ (spec : Data) (order need : List ℕ) (class x : ℕ) (s t : Codes) where
  moves_tell : holds_at (valuation_of s t) (relation_formula spec class) ≡ meets_relation spec class s t
  moves_tell = relation_truth_ok spec class (Ok (relation_formula spec class)) refl s t

  moved_from : list_all (holds_at (valuation_of s t)) (pair_formulas spec order need x) ≡ true → meets_relation spec class s t ≡ true → list_all (holds_at (valuation_of s t)) (moved_formulas spec order need class x) ≡ true
  moved_from h m =
      let v = holds_at (valuation_of s t) in
      let ns = flat_map (need_formulas spec) (filter (is_among need) order) in
      let both = and_parts (list_all v ns) (v (change_formula spec x) && true) (sym (list_all-append v ns (change_formula spec x ∷ [])) ∙ h) in
      list_all-append v ns (relation_formula spec class ∷ change_formula spec x ∷ []) ∙ and_from _ _ both.0 (and_from _ _ (moves_tell ∙ m) both.1)

  moved_parts : list_all (holds_at (valuation_of s t)) (moved_formulas spec order need class x) ≡ true
      → (list_all (holds_at (valuation_of s t)) (pair_formulas spec order need x) ≡ true) × (meets_relation spec class s t ≡ true)
  moved_parts h =
      let v = holds_at (valuation_of s t) in
      let ns = flat_map (need_formulas spec) (filter (is_among need) order) in
      let both = and_parts (list_all v ns) (v (relation_formula spec class) && (v (change_formula spec x) && true))
      (sym (list_all-append v ns (relation_formula spec class ∷ change_formula spec x ∷ [])) ∙ h) in
      let last = and_parts (v (relation_formula spec class)) (v (change_formula spec x) && true) both.1 in
      (list_all-append v ns (change_formula spec x ∷ []) ∙ and_from _ _ both.0 last.1, sym moves_tell ∙ last.0)

module _ (spec : Data) (order need : List ℕ) (class : ℕ) (known : List Candidate) (c : Candidate) (x : ℕ) (ordered : IsOrder (graph_of spec) order) (needed : IsNeed (graph_of spec) class need) where
  kept_truth : HasTruthWhereKept spec x (And (broken_formulas spec class known c ++ moved_formulas spec order need class x)) (test_formula spec order need class known c x)
  kept_truth = truth_ok spec x (And (broken_formulas spec class known c ++ moved_formulas spec order need class x)) (Ok (test_formula spec order need class known c x)) refl

  pub solved : (s t : Codes) → IsBrokenAt spec class known c x s t → IsSolution spec (test_formula spec order need class known c x) s t
  solved s t b =
      let v = holds_at (valuation_of s t) in
      let free = b.related.freely in
      let fs = broken_formulas spec class known c in
      let gs = moved_formulas spec order need class x in
      let pairs = (pairs_tell spec order need class x ordered needed s t free.old_typed free.new_typed free.others).1 b.related in
      let fails : Fails spec class s t known c = record { known_before = b.known_before; before = b.before; after = b.after } in
      record {
        old = free.old_typed;
        new = free.new_typed;
        truth =
            kept_truth s t free.others ∙ holds_at-And (valuation_of s t) (fs ++ gs) ∙ list_all-append v fs gs
            ∙ and_from _ _ (broken_from spec class s t known c fails) (moved_from spec order need class x s t pairs b.moves);
      }

  pub breaks : (s t : Codes) → IsSolution spec (test_formula spec order need class known c x) s t → IsBrokenAt spec class known c x s (mixed spec x s t)
  breaks s t sol =
      let u = mixed spec x s t in
      let v = holds_at (valuation_of s u) in
      let fs = broken_formulas spec class known c in
      let gs = moved_formulas spec order need class x in
      let moved : v (And (fs ++ gs)) ≡ true = sym (holds_at-frozen spec x (valuation_of s t) (valuation_of s u) (mixed_level spec x s t sol.new) (And (fs ++ gs))) ∙ sol.truth in
      let both = and_parts (list_all v fs) (list_all v gs) (sym (list_all-append v fs gs) ∙ sym (holds_at-And (valuation_of s u) (fs ++ gs)) ∙ moved) in
      let fails = broken_parts spec class s u known c both.0 in
      let related = moved_parts spec order need class x s u both.1 in
      record {
        related = (pairs_tell spec order need class x ordered needed s u sol.old (mixed_typed spec x s t sol.old sol.new) (mixed_keeps spec x s t)).0 related.0;
        moves = related.1;
        known_before = fails.known_before;
        before = fails.before;
        after = fails.after;
      }

  pub kept_by : IsUnsatisfiable (level_domains spec) (test_formula spec order need class known c x) → IsKeptBy spec class known c x
  kept_by none old new b = no_solution spec (test_formula spec order need class known c x) none old new (solved old new b)
