-- The judgement goes on, one changed variable and one assertion after another.
use Rattle.std.proofs.Common.{◌≡◌, ℕ, ◌+◌, ◌<◌, ◌≤◌, Bool, true, false, List, [], ◌∷◌, ◌++◌, length, zero, suc, get_or, take, set, Option, Some, None, refl, sym, ap, subst, ◌∙◌, inl, inr, length-append, arith, IsTrue}
use Rattle.std.specs.Prelude.{slice_get}
use Rattle.std.specs.Option.{option_map_or}
use Rattle.std.proofs.lemmas.Bool.{false≢true, cases_eq}
use Rattle.std.proofs.lemmas.List.{take_more, take_all}
use Rattle.std.proofs.lemmas.Option.{slice_get_within, slice_get_read, none-some, same_Some}
use Rattle.scr_spec.specs.Data.{Data}
use Rattle.scr_spec.specs.Relations.{is_monitored}
use Rattle.prove_decide.specs.declared.decision.Decision.{Decision}
use Rattle.prove_decide.specs.declared.decision.Decision.TheVariants.{Over, Unsatisfiable, Satisfied}
use Rattle.prove_decide.specs.Levels.{level_domains}
use Rattle.prove_decide.specs.Alone.{IsDecided}
use Rattle.scr_resolve_asserts.specs.declared.assertion.Assertion.{Assertion}
use Rattle.prove_asserts.specs.declared.lemma.Lemma.{Lemma}
use Rattle.prove_asserts.specs.declared.verdict.AssertVerdict.{AssertVerdict}
use Rattle.prove_asserts.specs.declared.verdict.AssertVerdict.TheVariants.{Yes, FalseInitial, Unproved, Undecided}
use Rattle.prove_asserts.specs.declared.setting.Setting.{Setting}
use Rattle.prove_asserts.specs.declared.change.Change.{Change}
use Rattle.prove_asserts.specs.Formulas.{test_formula}
use Rattle.prove_asserts.specs.Judged.{AreTested, all_passed, passed, satisfied, past, false_at_first, tested, HasEach}
use Rattle.prove_asserts.specs.Settings.{spec_in, order_in, change_of, IsChangeIn, change_test_in, IsJudgedBy, is_open, verdict_of, AreNext}
use Rattle.prove_asserts.proofs.Lists.{get_snoc, get_set}

-- ---- one more test

module _ (spec : Data) (order : List ℕ) (lemmas : List Lemma) (limit : ℕ) (a : Assertion) (x : ℕ) where
  one_tested : (d : Decision) → IsDecided (level_domains spec) limit (test_formula spec order lemmas a x) d → AreTested spec order lemmas limit a (x ∷ []) (verdict_of d)
  one_tested Unsatisfiable h = passed h all_passed
  one_tested (Satisfied w) h = satisfied h
  one_tested Over h = past h

  after_passed : (d : Decision) → IsDecided (level_domains spec) limit (test_formula spec order lemmas a x) d → {xs : List ℕ} → AreTested spec order lemmas limit a xs Yes
      → AreTested spec order lemmas limit a (xs ++ x ∷ []) (verdict_of d)
  after_passed d h all_passed = one_tested d h
  after_passed d h (passed p rest) = passed p (after_passed d h rest)

  after_decided : {xs : List ℕ} {v : AssertVerdict} → is_open v ≡ false → AreTested spec order lemmas limit a xs v → AreTested spec order lemmas limit a (xs ++ x ∷ []) v
  after_decided e all_passed = absurd (false≢true (sym e))
  after_decided e (passed p rest) = passed p (after_decided e rest)
  after_decided e (satisfied p) = satisfied p
  after_decided e (past p) = past p

open_yes : (v : AssertVerdict) → is_open v ≡ true → v ≡ Yes
open_yes Yes e = refl
open_yes FalseInitial e = absurd (false≢true e)
open_yes (Unproved w) e = absurd (false≢true e)
open_yes Undecided e = absurd (false≢true e)

module _ (s : Setting) (x : ℕ) (xs : List ℕ) (a : Assertion) where
  next_tested : (d : Decision) → change_test_in s a x d → IsJudgedBy s xs a Yes → IsJudgedBy s (xs ++ x ∷ []) a (verdict_of d)
  next_tested d h (tested holds t) = tested holds (after_passed (spec_in s) (order_in s) s.lemmas.now s.limit a x d h t)

  next_kept : (v : AssertVerdict) → is_open v ≡ false → IsJudgedBy s xs a v → IsJudgedBy s (xs ++ x ∷ []) a v
  next_kept v e (false_at_first kind fails) = false_at_first kind fails
  next_kept v e (tested holds t) = tested holds (after_decided (spec_in s) (order_in s) s.lemmas.now s.limit a x e t)

-- ---- assertion by assertion: the verdicts are made one after another

module _ (P : Assertion → AssertVerdict → Type 0) (assertions : List Assertion) where
  pub each_start : (out : List AssertVerdict) → out ≡ [] → HasEach P (take 0 assertions) out
  each_start out e = subst (HasEach P []) (sym e) (record { one_each = refl; each = λ i a v h k. absurd (none-some _ h) })

  push_each : (front : List Assertion) (a : Assertion) (out : List AssertVerdict) (v : AssertVerdict) → HasEach P front out → P a v → HasEach P (front ++ a ∷ []) (out ++ v ∷ [])
  push_each front a out v h p =
      let same = h.one_each in
      let long = length-append front (a ∷ []) in
      let more = length-append out (v ∷ []) in
      record {
        one_each = omega (arith, same, long, more);
        each = λ i b w there found.
            elim (get_snoc front a b i there) [
              | inl mine ↦ elim (get_snoc out v w i found) [
                | inl its ↦ h.each i b w mine its
                | inr last ↦ let inside = slice_get_within front i b mine in let at = last.0 in absurd (omega (arith, same, inside, at))
              ]
              | inr mine ↦ elim (get_snoc out v w i found) [
                | inl its ↦ let inside = slice_get_within out i w its in let at = mine.0 in absurd (omega (arith, same, inside, at))
                | inr last ↦ subst (λ z. P z w) mine.1 (subst (P a) last.1 p)
              ]
            ];
      }

  pub each_next : (i : ℕ) (out : List AssertVerdict) (a : Assertion) (v : AssertVerdict) (now : List AssertVerdict) → HasEach P (take i assertions) out → i < length assertions → a ≡ get_or assertions i a → P a v
      → now ≡ out ++ v ∷ [] → HasEach P (take (i + 1) assertions) now
  each_next i out a v now h lt at p e =
      subst (HasEach P (take (i + 1) assertions)) (sym e)
      (subst (λ xs. HasEach P xs (out ++ v ∷ [])) (ap (λ b. take i assertions ++ b ∷ []) at ∙ sym (take_more assertions i a lt)) (push_each (take i assertions) a out v h p))

  pub each_done : (i : ℕ) (out : List AssertVerdict) → HasEach P (take i assertions) out → length assertions ≤ i → HasEach P assertions out
  each_done i out h le = subst (λ xs. HasEach P xs out) (take_all i assertions le) h

-- ---- assertion by assertion: each verdict goes on by one test

pub record IsGoingOn (s : Setting) (x : ℕ) (assertions : List Assertion) (old : List AssertVerdict) (i : ℕ) (out : List AssertVerdict) : Type 0 where
  pub one_each : length out ≡ length assertions
  pub left : (k : ℕ) (v : AssertVerdict) → i ≤ k → slice_get out k ≡ Some v → slice_get old k ≡ Some v
  pub done : (xs : List ℕ) → HasEach (IsJudgedBy s xs) assertions old → (k : ℕ) (a : Assertion) (v : AssertVerdict) → k < i → slice_get assertions k ≡ Some a → slice_get out k ≡ Some v
      → IsJudgedBy s (xs ++ x ∷ []) a v

pub going_start : (s : Setting) (x : ℕ) (assertions : List Assertion) (old : List AssertVerdict) → length old ≡ length assertions → IsGoingOn s x assertions old 0 old
going_start s x assertions old e = record { one_each = e; left = λ k v le h. h; done = λ xs h k a v lt. absurd (omega (arith, lt)) }

module _ (s : Setting) (x : ℕ) (assertions : List Assertion) (old : List AssertVerdict) (i : ℕ) (out : List AssertVerdict) (h : IsGoingOn s x assertions old i out) where
  pub going_done : length assertions ≤ i → AreNext s x assertions old out
  going_done le = record {
    after = λ xs are. record {
      one_each = h.one_each;
      each = λ k a v there found. let inside = slice_get_within assertions k a there in h.done xs are k a v (omega (arith, le, inside)) there found;
    };
  }

  -- of the assertion at this place
  module _ (a : Assertion) (lt : i < length assertions) (at : a ≡ get_or assertions i a) where
    here : slice_get assertions i ≡ Some a
    here = slice_get_read assertions (length assertions) i a refl lt at

    same_here : (b : Assertion) → slice_get assertions i ≡ Some b → a ≡ b
    same_here b e = same_Some _ _ (sym here ∙ e)

    -- the verdict there so far
    is_open_there : (v : AssertVerdict) (b : Bool) → option_map_or is_open (slice_get out i) false ≡ b → slice_get out i ≡ Some v → is_open v ≡ b
    is_open_there v b e found = sym (ap (λ o. option_map_or is_open o false) found) ∙ e

    pub going_skip : option_map_or is_open (slice_get out i) false ≡ false → IsGoingOn s x assertions old (i + 1) out
    going_skip e = record {
      one_each = h.one_each;
      left = λ k v le found. h.left k v (omega (arith, le)) found;
      done = λ xs are k b v below there found.
          elim (cases_eq k i) [
            | inl same ↦
                let mine = subst (λ n. slice_get assertions n ≡ Some b) same there in
                let its = subst (λ n. slice_get out n ≡ Some v) same found in
                next_kept s x xs b v (is_open_there v false e its) (are.each i b v mine (h.left i v (omega arith) its))
            | inr other ↦ h.done xs are k b v (omega (arith, below, other)) there found
          ];
    }

    pub going_set : option_map_or is_open (slice_get out i) false ≡ true → (d : Decision) → change_test_in s a x d → IsGoingOn s x assertions old (i + 1) (set out i (verdict_of d))
    going_set e d decided = record {
      one_each = length_set out i (verdict_of d) ∙ h.one_each;
      left = λ k v le found.
          elim (get_set out (verdict_of d) v i k found) [
            | inl mine ↦ let at = mine.0 in absurd (omega (arith, le, at))
            | inr other ↦ h.left k v (omega (arith, le)) other.1
          ];
      done = λ xs are k b v below there found.
          elim (get_set out (verdict_of d) v i k found) [
            | inl mine ↦
                let its = subst (λ n. slice_get assertions n ≡ Some b) mine.0 there in
                let was = first_open (slice_get out i) refl in
                subst (λ z. IsJudgedBy s (xs ++ x ∷ []) z v) (same_here b its)
                (subst (IsJudgedBy s (xs ++ x ∷ []) a) mine.1 (next_tested s x xs a d decided (are.each i a Yes here (h.left i Yes (omega arith) was))))
            | inr other ↦ h.done xs are k b v (omega (arith, below, other.0)) there other.1
          ];
    }
      where
        length_set : (vs : List AssertVerdict) (n : ℕ) (w : AssertVerdict) → length (set vs n w) ≡ length vs
        length_set [] n w = refl
        length_set (v ∷ vs) zero w = refl
        length_set (v ∷ vs) (suc n) w = ap suc (length_set vs n w)

        first_open : (o : Option AssertVerdict) → slice_get out i ≡ o → slice_get out i ≡ Some Yes
        first_open None is = absurd (false≢true (sym (ap (λ o. option_map_or is_open o false) is) ∙ e))
        first_open (Some v) is = is ∙ ap Some (open_yes v (is_open_there v true e is))

-- ---- variable by variable

pub change_there : (s : Setting) (x : ℕ) (change : Change) → IsTrue (is_monitored (spec_in s) x) → change ≡ change_of (spec_in s) (order_in s) s.lemmas.now x → IsChangeIn s change
change_there s x change monitored e = subst (IsChangeIn s) (sym e) (record { change_is = refl; monitored = monitored })

pub judged_next : (s : Setting) (assertions : List Assertion) (xs : List ℕ) (i : ℕ) (old new : List AssertVerdict) (x : ℕ) → HasEach (IsJudgedBy s (take i xs)) assertions old → i < length xs → x ≡ get_or xs i 0
    → AreNext s x assertions old new → HasEach (IsJudgedBy s (take (i + 1) xs)) assertions new
judged_next s assertions xs i old new x h lt at n =
    subst (λ ys. HasEach (IsJudgedBy s ys) assertions new) (ap (λ y. take i xs ++ y ∷ []) at ∙ sym (take_more xs i 0 lt)) (n.after (take i xs) h)
