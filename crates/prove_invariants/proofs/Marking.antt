-- The tests of the candidates of a round, one changed variable after another, and what the round makes of how they end.
use Rattle.std.proofs.Common.{◌≡◌, ℕ, ◌+◌, ◌<◌, ◌≤◌, Bool, true, false, None, List, [], ◌∷◌, ◌++◌, length, get_or, take, drop, min, refl, sym, ap, subst, ◌∙◌, inl, inr, add-one, drop-cons, append_assoc, append-nil, length-drop, arith, IsTrue}
use Rattle.std.specs.Prelude.{IfOk, Result, Ok, Err}
use Rattle.std.proofs.lemmas.Bool.{cases_lt}
use Rattle.std.proofs.lemmas.List.{take_more, drop_all}
use Rattle.base.specs.declared.memory.NoMemory.{NoMemory}
use Rattle.scr_spec.specs.Data.{Data}
use Rattle.scr_spec.specs.Relations.{is_monitored}
use Rattle.prove_candidates.specs.declared.candidate.Candidate.{Candidate}
use Rattle.prove_invariants.specs.declared.standing.Standing.{Standing}
use Rattle.prove_invariants.specs.declared.moves.Moved.{Moved}
use Rattle.prove_invariants.specs.declared.setting.Round.{Round}
use Rattle.prove_invariants.specs.declared.change.Tested.{Tested}
use Rattle.prove_invariants.specs.declared.change.Tested.TheVariants.{Kept, Broken, Past}
use Rattle.prove_goals.specs.Goals.{monitored_variables}
use Rattle.prove_invariants.specs.Tests.{IsChangeTested, AreTested, all_kept, kept, broken, past}
use Rattle.prove_invariants.specs.Tests as tests
use Rattle.prove_invariants.specs.Settings.{moved_by, spec_in, test_in, IsMovedIn, change_test_in}
use Rattle.prove_invariants.specs.Rounds.{passed_in, IsMarked, IsRound, StopsAt}
use Rattle.prove_invariants.specs.Rounds as rounds
use Rattle.prove_invariants.specs.Steps.{HasGained}
use Rattle.prove_invariants.specs.Outcomes.{IsOutcome, passed_before, false_at_first, tested, AreOutcomes, all_told, told, past_told, IsNextOutcome, AreNextOutcomes}
use Rattle.prove_invariants.proofs.Progress.{IsInRound, round_start, round_fixed, round_gained, round_stops, round_same, round_passes}

-- ---- one more variable

module _ (spec : Data) (order need : List ℕ) (class limit : ℕ) (known : List Candidate) (c : Candidate) (ys : List ℕ) where
  more_after_broken : {xs : List ℕ} → AreTested spec order need class limit known c xs Broken → AreTested spec order need class limit known c (xs ++ ys) Broken
  more_after_broken (kept h rest) = kept h (more_after_broken rest)
  more_after_broken (broken b) = broken b

  more_after_past : {xs : List ℕ} → AreTested spec order need class limit known c xs Past → AreTested spec order need class limit known c (xs ++ ys) Past
  more_after_past (kept h rest) = kept h (more_after_past rest)
  more_after_past (past p) = past p

module _ (spec : Data) (order need : List ℕ) (class limit : ℕ) (known : List Candidate) (c : Candidate) (x : ℕ) where
  one_tested : (outcome : Tested) → IsChangeTested spec order need class limit known c x outcome → AreTested spec order need class limit known c (x ∷ []) outcome
  one_tested Kept h = kept h all_kept
  one_tested Broken h = broken h
  one_tested Past h = past h

  more_after_kept : (outcome : Tested) → IsChangeTested spec order need class limit known c x outcome → {xs : List ℕ} → AreTested spec order need class limit known c xs Kept
      → AreTested spec order need class limit known c (xs ++ x ∷ []) outcome
  more_after_kept outcome h all_kept = one_tested outcome h
  more_after_kept outcome h (kept k rest) = kept k (more_after_kept outcome h rest)

module _ (r : Round) (x : ℕ) (s : Standing) where
  abbrev spec : Data
  spec = spec_in r.setting.now

  abbrev order : List ℕ
  order = r.setting.now.checked.now.order.list

  abbrev need : List ℕ
  need = r.setting.now.need.now

  abbrev class : ℕ
  class = r.setting.now.class

  abbrev limit : ℕ
  limit = r.setting.now.limit

  kept_more : (next : Tested) → change_test_in r s.candidate x next → (xs : List ℕ) → IsOutcome r xs s Kept → IsOutcome r (xs ++ x ∷ []) s next
  kept_more next h xs (tested e holds k) = tested e holds (more_after_kept spec order need class limit r.known.now s.candidate x next h k)

  broken_more : (xs : List ℕ) → IsOutcome r xs s Broken → IsOutcome r (xs ++ x ∷ []) s Broken
  broken_more xs (passed_before e) = passed_before e
  broken_more xs (false_at_first e h) = false_at_first e h
  broken_more xs (tested e holds k) = tested e holds (more_after_broken spec order need class limit r.known.now s.candidate (x ∷ []) k)

  past_more : (xs : List ℕ) → IsOutcome r xs s Past → IsOutcome r (xs ++ x ∷ []) s Past
  past_more xs (tested e holds k) = tested e holds (more_after_past spec order need class limit r.known.now s.candidate (x ∷ []) k)

  pub next_if_kept : (result : Result Tested NoMemory) → IfOk result (change_test_in r s.candidate x) → IfOk result (IsNextOutcome r x s Kept)
  next_if_kept (Ok next) h = record { after = kept_more next h; past = λ e. cc }
  next_if_kept (Err e) h = h

  pub next_of_broken : IsNextOutcome r x s Broken Broken
  next_of_broken = record { after = broken_more; past = λ e. cc }

  pub next_of_past : IsNextOutcome r x s Past Past
  next_of_past = record { after = past_more; past = λ e. refl }

-- ---- candidate by candidate

front_of : {X : Type 0} (xs : List X) (i : ℕ) (x : X) → i < length xs → x ≡ get_or xs i x → drop i xs ≡ x ∷ drop (i + 1) xs
front_of xs i x lt at = drop-cons xs i x lt ∙ ap (λ n. get_or xs i x ∷ drop n xs) (sym (add-one i)) ∙ ap (λ y. y ∷ drop (i + 1) xs) (sym at)

front_told : {r : Round} {xs : List ℕ} {s : Standing} {ss : List Standing} {f : Tested} {fs : List Tested} → AreOutcomes r xs (s ∷ ss) (f ∷ fs) → IsOutcome r xs s f × ((f ≡ Past → ⊥) → AreOutcomes r xs ss fs)
front_told (told o rest) = (o, λ other. rest)
front_told (past_told o) = (o, λ other. absurd (other refl))

none_told : {r : Round} {xs : List ℕ} {ss : List Standing} {fs : List Tested} → AreOutcomes r xs ss fs → length fs ≡ 0 → length ss ≡ 0
none_told all_told e = refl
none_told (told o rest) e = absurd (omega (arith, e))
none_told (past_told o) e = absurd (omega (arith, e))

-- a loop over both ends behind the last candidate
all_behind : {r : Round} {xs : List ℕ} (ss : List Standing) (fs : List Tested) (i : ℕ) → AreOutcomes r xs (drop i ss) (drop i fs) → i ≡ min (length ss) (length fs) → length ss ≤ i
all_behind ss fs i h e =
    elim (cases_lt (length fs) (length ss)) [
      | inl lt ↦
          let none = length-drop i fs in
          let left = none_told h (omega (arith, e, lt, none)) in
          let rest = length-drop i ss in
          omega (arith, left, rest)
      | inr le ↦ omega (arith, e, le)
    ]

module _ {r : Round} {xs : List ℕ} (ss : List Standing) (fs : List Tested) (i : ℕ) (h : AreOutcomes r xs (drop i ss) (drop i fs)) (s : Standing) (f : Tested)
    (lt : i < length ss) (at : s ≡ get_or ss i s) (within : i < length fs) (is : f ≡ get_or fs i f) where
  told_at : IsOutcome r xs s f × ((f ≡ Past → ⊥) → AreOutcomes r xs (drop (i + 1) ss) (drop (i + 1) fs))
  told_at =
      front_told (subst (λ ts. AreOutcomes r xs ts (f ∷ drop (i + 1) fs)) (front_of ss i s lt at) (subst (AreOutcomes r xs (drop i ss)) (front_of fs i f within is) h))

-- ---- the first outcomes, after those of the first i candidates

pub record IsBeginning (r : Round) (ss : List Standing) (i : ℕ) (out : List Tested) : Type 0 where
  pub goes_on : (more : List Tested) → AreOutcomes r [] (drop i ss) more → AreOutcomes r [] ss (out ++ more)

pub beginning_start : (r : Round) (ss : List Standing) (out : List Tested) → out ≡ [] → IsBeginning r ss 0 out
beginning_start r ss out e = subst (IsBeginning r ss 0) (sym e) (record { goes_on = λ more h. h })

module _ (r : Round) (ss : List Standing) (i : ℕ) (out : List Tested) (h : IsBeginning r ss i out) where
  pub beginning_next : (s : Standing) (f : Tested) (now : List Tested) → i < length ss → s ≡ get_or ss i s → IsOutcome r [] s f → now ≡ out ++ f ∷ [] → IsBeginning r ss (i + 1) now
  beginning_next s f now lt at o e = record {
    goes_on = λ more rest.
        subst (AreOutcomes r [] ss) (sym (append_assoc out (f ∷ []) more) ∙ ap (λ fs. fs ++ more) (sym e))
        (h.goes_on (f ∷ more) (subst (λ ts. AreOutcomes r [] ts (f ∷ more)) (sym (front_of ss i s lt at)) (told o rest)));
  }

  pub beginning_done : length ss ≤ i → AreOutcomes r [] ss out
  beginning_done le = subst (AreOutcomes r [] ss) (append-nil out) (h.goes_on [] (subst (λ ts. AreOutcomes r [] ts []) (sym (drop_all i ss le)) all_told))

-- ---- the next outcomes, after those of the first i candidates, of which none is past the limit

pub record IsGoingOn (r : Round) (x : ℕ) (ss : List Standing) (fs : List Tested) (i : ℕ) (out : List Tested) : Type 0 where
  pub left : (xs : List ℕ) → AreOutcomes r xs ss fs → AreOutcomes r xs (drop i ss) (drop i fs)
  pub made : (xs : List ℕ) → AreOutcomes r xs ss fs → (more : List Tested) → AreOutcomes r (xs ++ x ∷ []) (drop i ss) more → AreOutcomes r (xs ++ x ∷ []) ss (out ++ more)

pub going_start : (r : Round) (x : ℕ) (ss : List Standing) (fs out : List Tested) → out ≡ [] → IsGoingOn r x ss fs 0 out
going_start r x ss fs out e = subst (IsGoingOn r x ss fs 0) (sym e) (record { left = λ xs h. h; made = λ xs h more k. k })

module _ (r : Round) (x : ℕ) (ss : List Standing) (fs : List Tested) (i : ℕ) (out : List Tested) (h : IsGoingOn r x ss fs i out) where
  pub going_done : i ≡ min (length ss) (length fs) → AreNextOutcomes r x ss fs out
  going_done e = record {
    after = λ xs k.
        subst (AreOutcomes r (xs ++ x ∷ []) ss) (append-nil out)
        (h.made xs k [] (subst (λ ts. AreOutcomes r (xs ++ x ∷ []) ts []) (sym (drop_all i ss (all_behind ss fs i (h.left xs k) e))) all_told));
  }

  module _ (s : Standing) (f g : Tested) (now : List Tested) (lt : i < length ss) (at : s ≡ get_or ss i s) (within : i < length fs) (is : f ≡ get_or fs i f)
      (n : IsNextOutcome r x s f g) (e : now ≡ out ++ g ∷ []) where
    outcome : (xs : List ℕ) → AreOutcomes r xs ss fs → IsOutcome r (xs ++ x ∷ []) s g
    outcome xs k = n.after xs (told_at ss fs i (h.left xs k) s f lt at within is).0

    pub going_past : g ≡ Past → AreNextOutcomes r x ss fs now
    going_past ended = record {
      after = λ xs k.
          let last : AreOutcomes r (xs ++ x ∷ []) (s ∷ drop (i + 1) ss) (g ∷ [])
          = subst (λ t. AreOutcomes r (xs ++ x ∷ []) (s ∷ drop (i + 1) ss) (t ∷ [])) (sym ended) (past_told (subst (IsOutcome r (xs ++ x ∷ []) s) ended (outcome xs k))) in
          subst (AreOutcomes r (xs ++ x ∷ []) ss) (sym e) (h.made xs k (g ∷ []) (subst (λ ts. AreOutcomes r (xs ++ x ∷ []) ts (g ∷ [])) (sym (front_of ss i s lt at)) last));
    }

    pub going_next : (g ≡ Past → ⊥) → IsGoingOn r x ss fs (i + 1) now
    going_next other = record {
      left = λ xs k. (told_at ss fs i (h.left xs k) s f lt at within is).1 (λ ended. other (n.past ended));
      made = λ xs k more rest.
          subst (AreOutcomes r (xs ++ x ∷ []) ss) (sym (append_assoc out (g ∷ []) more) ∙ ap (λ ys. ys ++ more) (sym e))
          (h.made xs k (g ∷ more) (subst (λ ts. AreOutcomes r (xs ++ x ∷ []) ts (g ∷ more)) (sym (front_of ss i s lt at)) (told (outcome xs k) rest)));
    }

-- ---- variable by variable

pub moved_there : (r : Round) (x : ℕ) (m : Moved) → IsTrue (is_monitored (spec_in r.setting.now) x)
    → m ≡ moved_by (spec_in r.setting.now) r.setting.now.checked.now.order.list r.setting.now.need.now r.setting.now.class x → IsMovedIn r m
moved_there r x m monitored e = subst (IsMovedIn r) (sym e) (record { moved = refl; monitored = monitored })

pub outcomes_next : (r : Round) (ss : List Standing) (xs : List ℕ) (i : ℕ) (fs gs : List Tested) (x : ℕ) → AreOutcomes r (take i xs) ss fs → i < length xs → x ≡ get_or xs i 0 → AreNextOutcomes r x ss fs gs
    → AreOutcomes r (take (i + 1) xs) ss gs
outcomes_next r ss xs i fs gs x h lt at n =
    subst (λ ys. AreOutcomes r ys ss gs) (ap (λ y. take i xs ++ y ∷ []) at ∙ sym (take_more xs i 0 lt)) (n.after (take i xs) h)

-- ---- what the round makes of the outcomes, after the first i candidates

abbrev all_variables : Round → List ℕ
all_variables r = monitored_variables (spec_in r.setting.now)

pub record IsMarking (r : Round) (ss : List Standing) (fs : List Tested) (i : ℕ) (out : List Standing) (gained : Bool) : Type 0 where
  pub in_round : IsInRound (test_in r.setting.now) r.number r.known.now ss i out gained
  pub left : AreOutcomes r (monitored_variables (spec_in r.setting.now)) (drop i ss) (drop i fs)

module _ (r : Round) (s : Standing) where
  ends_kept : IsOutcome r (all_variables r) s Kept → (s.round ≡ None) × test_in r.setting.now r.known.now s.candidate Kept
  ends_kept (tested e holds k) = (e, tests.tested holds k)

  ends_past : IsOutcome r (all_variables r) s Past → (s.round ≡ None) × test_in r.setting.now r.known.now s.candidate Past
  ends_past (tested e holds k) = (e, tests.tested holds k)

  ends_broken : IsOutcome r (all_variables r) s Broken → IsMarked (test_in r.setting.now) r.number r.known.now s s
  ends_broken (passed_before e) = rounds.passed_before e
  ends_broken (false_at_first e h) = rounds.fails e (tests.false_at_first h)
  ends_broken (tested e holds k) = rounds.fails e (tests.tested holds k)

pub marking_start : (r : Round) (ss : List Standing) (fs : List Tested) (out : List Standing) → AreOutcomes r (monitored_variables (spec_in r.setting.now)) ss fs → out ≡ [] → IsMarking r ss fs 0 out false
marking_start r ss fs out h e = subst (λ ys. IsMarking r ss fs 0 ys false) (sym e) (record { in_round = round_start (test_in r.setting.now) r.number r.known.now ss; left = h })

module _ (r : Round) (ss : List Standing) (fs : List Tested) (i : ℕ) (out : List Standing) (gained : Bool) (h : IsMarking r ss fs i out gained) where
  pub marking_fixed : i ≡ min (length ss) (length fs) → gained ≡ false → IsRound (test_in r.setting.now) r.number r.known.now ss ss
  marking_fixed e none = round_fixed (test_in r.setting.now) r.number r.known.now ss i out gained h.in_round (all_behind ss fs i h.left e) none

  pub marking_gained : i ≡ min (length ss) (length fs) → gained ≡ true → HasGained (test_in r.setting.now) r.number r.known.now ss out
  marking_gained e some = round_gained (test_in r.setting.now) r.number r.known.now ss i out gained h.in_round (all_behind ss fs i h.left e) some

  module _ (s : Standing) (f : Tested) (lt : i < length ss) (at : s ≡ get_or ss i s) (within : i < length fs) (is : f ≡ get_or fs i f) where
    here : IsOutcome r (all_variables r) s f × ((f ≡ Past → ⊥) → AreOutcomes r (all_variables r) (drop (i + 1) ss) (drop (i + 1) fs))
    here = told_at ss fs i h.left s f lt at within is

    outcome_is : (g : Tested) → f ≡ g → IsOutcome r (all_variables r) s g
    outcome_is g e = subst (IsOutcome r (all_variables r) s) e here.0

    pub marking_past : f ≡ Past → StopsAt (test_in r.setting.now) r.number r.known.now ss s.candidate
    marking_past e =
        let ended = ends_past r s (outcome_is Past e) in
        round_stops (test_in r.setting.now) r.number r.known.now ss i out gained h.in_round s lt at ended.0 ended.1

    pub marking_kept : f ≡ Kept → (t : Standing) (now : List Standing) → t ≡ passed_in r.number s.candidate → now ≡ out ++ t ∷ [] → IsMarking r ss fs (i + 1) now true
    marking_kept e t now is_now added =
        let ended = ends_kept r s (outcome_is Kept e) in
        let marked : IsMarked (test_in r.setting.now) r.number r.known.now s t = subst (IsMarked (test_in r.setting.now) r.number r.known.now s) (sym is_now) (rounds.passes ended.0 ended.1) in
        record {
          in_round = subst (λ ys. IsInRound (test_in r.setting.now) r.number r.known.now ss (i + 1) ys true) (sym added)
              (round_passes (test_in r.setting.now) r.number r.known.now ss i out gained h.in_round s lt at t ended.0 is_now marked);
          left = here.1 (λ ended. cc);
        }

    pub marking_broken : f ≡ Broken → (t : Standing) (now : List Standing) → t ≡ s → now ≡ out ++ t ∷ [] → IsMarking r ss fs (i + 1) now gained
    marking_broken e t now same added =
        let marked : IsMarked (test_in r.setting.now) r.number r.known.now s t = subst (IsMarked (test_in r.setting.now) r.number r.known.now s) (sym same) (ends_broken r s (outcome_is Broken e)) in
        record {
          in_round = subst (λ ys. IsInRound (test_in r.setting.now) r.number r.known.now ss (i + 1) ys gained) (sym added)
              (round_same (test_in r.setting.now) r.number r.known.now ss i out gained h.in_round s lt at t same marked);
          left = here.1 (λ ended. cc);
        }
