-- What is derived is over the specification.
use Rattle.std.proofs.Common.{◌≡◌, ℕ, Bool, true, Option, Some, None, List, [], ◌∷◌, ◌++◌, refl, subst, sym}
use Rattle.std.specs.Prelude.{IfOk, Result, Ok, Err}
use Rattle.std.specs.List.{list_all}
use Rattle.std.proofs.lemmas.Bool.{and_parts, and_from}
use Rattle.base.specs.declared.memory.NoMemory.{NoMemory}
use Rattle.scr_spec.specs.Data.{Data}
use Rattle.scr_spec.specs.Sound.{IsSound}
use Rattle.prove_candidates.specs.declared.candidate.Candidate.{Candidate}
use Rattle.prove_candidates.specs.Candidates.{is_candidate_over}
use Rattle.prove_candidates.proofs.Over.{candidates_over}
use Rattle.prove_invariants.specs.declared.standing.Standing.{Standing}
use Rattle.prove_invariants.specs.declared.derived.Found.{Found}
use Rattle.prove_invariants.specs.declared.derived.Derived.{Derived}
use Rattle.prove_invariants.specs.declared.derived.Derived.TheVariants.{All, Undecided}
use Rattle.prove_invariants.specs.Rounds.{Tests, found_in, found_of, StopsAt, here, later, IsAfter, start, one_more, IsDerived}
use Rattle.prove_invariants.specs.Derivations.{HasDerived, AreFoundOver, IsDerivedOver}
use Rattle.prove_invariants.proofs.Progress.{standing_pass, round_pass}

-- each candidate has the property
abbrev all_stand : (Candidate → Bool) → List Standing → Bool
all_stand p ss = list_all (λ (s : Standing). p s.candidate) ss

abbrev all_found : (Candidate → Bool) → List Found → Bool
all_found p fs = list_all (λ (f : Found). p f.candidate) fs

module _ (p : Candidate → Bool) where
  found_in_pass : (c : Candidate) (o : Option ℕ) (fs : List Found) → p c ≡ true → all_found p fs ≡ true → all_found p (found_in c o ++ fs) ≡ true
  found_in_pass c None fs h k = k
  found_in_pass c (Some round) fs h k = and_from _ _ h k

  found_pass : (ss : List Standing) → all_stand p ss ≡ true → all_found p (found_of ss) ≡ true
  found_pass [] h = refl
  found_pass (s ∷ ss) h =
      let both = and_parts (p s.candidate) (all_stand p ss) h in
      found_in_pass s.candidate s.round (found_of ss) both.0 (found_pass ss both.1)

  stop_passes : {test : Tests} {round : ℕ} {known : List Candidate} {ss : List Standing} {c : Candidate} → StopsAt test round known ss c → all_stand p ss ≡ true → p c ≡ true
  stop_passes (here {s = s} {ss = ss} e past) h = (and_parts (p s.candidate) (all_stand p ss) h).0
  stop_passes (later {s = s} {ss = ss} marked stops) h = stop_passes stops (and_parts (p s.candidate) (all_stand p ss) h).1

  after_pass : (cs : List Candidate) → list_all p cs ≡ true → {test : Tests} {rounds : ℕ} {ss : List Standing} → IsAfter test cs rounds ss → all_stand p ss ≡ true
  after_pass cs h start = standing_pass p cs h
  after_pass cs h (one_more before made more) = round_pass p made (after_pass cs h before)

derived_over : (spec : Data) (class : ℕ) (test : Tests) (cs : List Candidate) → list_all (is_candidate_over spec class) cs ≡ true → (derived : Derived) → IsDerived test cs derived → IsDerivedOver spec class derived
derived_over spec class test cs over (All found) h =
    let p = is_candidate_over spec class in
    subst (AreFoundOver spec class) (sym h.told) (found_pass p h.standings (after_pass p cs over h.after))
derived_over spec class test cs over (Undecided round c) h =
    let p = is_candidate_over spec class in
    stop_passes p h.stops (after_pass p cs over h.after)

-- the law of the call
pub derived_over_ok : (spec : Data) (order : List ℕ) (class limit : ℕ) (r : Result Derived NoMemory) → IsSound spec → IfOk r (HasDerived spec order class limit) → IfOk r (IsDerivedOver spec class)
derived_over_ok spec order class limit (Ok derived) sound h = derived_over spec class _ h.candidates (candidates_over spec sound class h.candidates h.listed) derived h.derived_is
derived_over_ok spec order class limit (Err e) sound h = h
