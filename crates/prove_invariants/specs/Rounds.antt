-- Rounds of tests. Each tests the candidates that have not passed; those that passed in earlier rounds are known.
use Rattle.std.specs.Prelude.{◌≡◌, ℕ, ◌+◌, ◌<◌, Option, Some, None, List, [], ◌∷◌, ◌++◌, map, length}
use Rattle.prove_candidates.specs.declared.candidate.Candidate.{Candidate}
use Rattle.prove_invariants.specs.declared.derived.Found.{Found}
use Rattle.prove_invariants.specs.declared.derived.Derived.{Derived}
use Rattle.prove_invariants.specs.declared.derived.Derived.TheVariants.{All, Undecided}
use Rattle.prove_invariants.specs.declared.standing.Standing.{Standing}
use Rattle.prove_invariants.specs.declared.change.Tested.{Tested}
use Rattle.prove_invariants.specs.declared.change.Tested.TheVariants.{Kept, Broken, Past}

-- how the test of a candidate ends, with these known
abbrev pub Tests : Type 1
Tests = List Candidate → Candidate → Tested → Type 0

-- ---- candidates with the round in which each has passed

-- one that has not
abbrev pub standing_of : Candidate → Standing
standing_of c = record { candidate = c; round = None }

-- one that has
abbrev pub passed_in : ℕ → Candidate → Standing
passed_in round c = record { candidate = c; round = Some round }

-- the candidate, if it has passed
abbrev pub known_in : Candidate → Option ℕ → List Candidate
known_in c None = []
known_in c (Some round) = c ∷ []

-- those that have passed
abbrev pub known_of : List Standing → List Candidate
known_of [] = []
known_of (s ∷ ss) = known_in s.candidate s.round ++ known_of ss

abbrev pub found_in : Candidate → Option ℕ → List Found
found_in c None = []
found_in c (Some round) = record { candidate = c; round = round } ∷ []

-- those that have passed, each with its round
abbrev pub found_of : List Standing → List Found
found_of [] = []
found_of (s ∷ ss) = found_in s.candidate s.round ++ found_of ss

-- ---- a round

-- what it makes of one candidate
pub data IsMarked (test : Tests) (round : ℕ) (known : List Candidate) : Standing → Standing → Type 0 where
  passed_before : {s : Standing} {k : ℕ} → s.round ≡ Some k → IsMarked test round known s s
  fails : {s : Standing} → s.round ≡ None → test known s.candidate Broken → IsMarked test round known s s
  passes : {s : Standing} → s.round ≡ None → test known s.candidate Kept → IsMarked test round known s (passed_in round s.candidate)

-- and of all
pub data IsRound (test : Tests) (round : ℕ) (known : List Candidate) : List Standing → List Standing → Type 0 where
  no_more : IsRound test round known [] []
  next : {s t : Standing} {ss ts : List Standing} → IsMarked test round known s t → IsRound test round known ss ts → IsRound test round known (s ∷ ss) (t ∷ ts)

-- it stops at the first candidate whose test is past the limit
pub data StopsAt (test : Tests) (round : ℕ) (known : List Candidate) : List Standing → Candidate → Type 0 where
  here : {s : Standing} {ss : List Standing} → s.round ≡ None → test known s.candidate Past → StopsAt test round known (s ∷ ss) s.candidate
  later : {s t : Standing} {ss : List Standing} {c : Candidate} → IsMarked test round known s t → StopsAt test round known ss c → StopsAt test round known (s ∷ ss) c

-- ---- rounds

-- how many have passed
abbrev pub number_passed : List Standing → ℕ
number_passed ss = length (known_of ss)

-- after so many rounds, in each of which some candidate passed
pub data IsAfter (test : Tests) (cs : List Candidate) : ℕ → List Standing → Type 0 where
  start : IsAfter test cs 0 (map standing_of cs)
  one_more : {rounds : ℕ} {ss ts : List Standing} → IsAfter test cs rounds ss → IsRound test (rounds + 1) (known_of ss) ss ts → number_passed ss < number_passed ts
      → IsAfter test cs (rounds + 1) ts

-- ---- how the rounds end

-- with the first round in which none passes
pub record IsFixed (test : Tests) (cs : List Candidate) (found : List Found) : Type 0 where
  pub rounds : ℕ
  pub standings : List Standing
  pub after : IsAfter test cs rounds standings
  pub last : IsRound test (rounds + 1) (known_of standings) standings standings
  pub told : found ≡ found_of standings

-- or with the first test that is past the limit
pub record IsStopped (test : Tests) (cs : List Candidate) (round : ℕ) (c : Candidate) : Type 0 where
  pub rounds : ℕ
  pub standings : List Standing
  pub after : IsAfter test cs rounds standings
  pub number : round ≡ rounds + 1
  pub stops : StopsAt test (rounds + 1) (known_of standings) standings c

abbrev pub IsDerived : Tests → List Candidate → Derived → Type 0
IsDerived test cs (All found) = IsFixed test cs found
IsDerived test cs (Undecided round c) = IsStopped test cs round c
