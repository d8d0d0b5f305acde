-- A round, candidate by candidate, and rounds, one after another.
use Rattle.std.proofs.Common.{◌≡◌, ℕ, suc, ◌+◌, ◌<◌, ◌≤◌, Bool, true, false, Option, Some, None, List, [], ◌∷◌, ◌++◌, length, get_or, take, drop, map, refl, sym, ap, subst, ◌∙◌, arith, add-one, drop-cons, append_assoc, append-nil, length-append}
use Rattle.std.specs.List.{list_all}
use Rattle.std.proofs.lemmas.Bool.{and_parts, and_from}
use Rattle.std.proofs.lemmas.List.{take_more, take_all, drop_all}
use Rattle.scr_spec.specs.Data.{Data}
use Rattle.prove_candidates.specs.declared.candidate.Candidate.{Candidate}
use Rattle.prove_candidates.specs.Candidates.{is_candidate_over, AreOver}
use Rattle.prove_invariants.specs.declared.standing.Standing.{Standing}
use Rattle.prove_invariants.specs.declared.derived.Found.{Found}
use Rattle.prove_invariants.specs.declared.change.Tested.TheVariants.{Past}
use Rattle.prove_invariants.specs.Rounds.{Tests, standing_of, passed_in, known_in, known_of, found_of, IsMarked, passed_before, fails, passes, IsRound, no_more, next, StopsAt, here, later, number_passed, IsAfter, start, one_more, IsFixed, IsStopped}
use Rattle.prove_invariants.specs.Steps.{HasGained, AreStandingOver}
use Rattle.prove_invariants.proofs.Standings.{known_append}

-- ---- a round, after the first i candidates

pub record IsInRound (test : Tests) (round : ℕ) (known : List Candidate) (ss : List Standing) (i : ℕ) (out : List Standing) (gained : Bool) : Type 0 where
  pub goes_on : (ts : List Standing) → IsRound test round known (drop i ss) ts → IsRound test round known ss (out ++ ts)
  pub stops : (c : Candidate) → StopsAt test round known (drop i ss) c → StopsAt test round known ss c
  pub same : gained ≡ false → out ≡ take i ss
  pub fewer : number_passed (take i ss) ≤ number_passed out
  pub more : gained ≡ true → number_passed (take i ss) < number_passed out

passed_more : (ss : List Standing) (s : Standing) → number_passed (ss ++ s ∷ []) ≡ number_passed ss + length (known_in s.candidate s.round)
passed_more ss s = ap length (known_append ss (s ∷ []) ∙ ap (λ cs. known_of ss ++ cs) (append-nil (known_in s.candidate s.round))) ∙ length-append (known_of ss) (known_in s.candidate s.round)

pub round_start : (test : Tests) (round : ℕ) (known : List Candidate) (ss : List Standing) → IsInRound test round known ss 0 [] false
round_start test round known ss = record { goes_on = λ ts h. h; stops = λ c h. h; same = λ e. refl; fewer = omega arith; more = λ e. cc }

module _ (test : Tests) (round : ℕ) (known : List Candidate) (ss : List Standing) (i : ℕ) (out : List Standing) (gained : Bool) (h : IsInRound test round known ss i out gained) where
  pub round_fixed : length ss ≤ i → gained ≡ false → IsRound test round known ss ss
  round_fixed le none =
      subst (IsRound test round known ss) (append-nil out ∙ h.same none ∙ take_all i ss le)
      (h.goes_on [] (subst (λ ys. IsRound test round known ys []) (sym (drop_all i ss le)) no_more))

  pub round_gained : length ss ≤ i → gained ≡ true → HasGained test round known ss out
  round_gained le some = record {
    made = subst (IsRound test round known ss) (append-nil out) (h.goes_on [] (subst (λ ys. IsRound test round known ys []) (sym (drop_all i ss le)) no_more));
    more = subst (λ ys. number_passed ys < number_passed out) (take_all i ss le) (h.more some);
  }

  module _ (s : Standing) (lt : i < length ss) (at : s ≡ get_or ss i s) where
    front : drop i ss ≡ s ∷ drop (i + 1) ss
    front = drop-cons ss i s lt ∙ ap (λ n. get_or ss i s ∷ drop n ss) (sym (add-one i)) ∙ ap (λ (t : Standing). t ∷ drop (i + 1) ss) (sym at)

    begun : take (i + 1) ss ≡ take i ss ++ s ∷ []
    begun = take_more ss i s lt ∙ ap (λ (t : Standing). take i ss ++ t ∷ []) (sym at)

    pub round_stops : s.round ≡ None → test known s.candidate Past → StopsAt test round known ss s.candidate
    round_stops open_before past = h.stops s.candidate (subst (λ ys. StopsAt test round known ys s.candidate) (sym front) (here open_before past))

    goes : (t : Standing) → IsMarked test round known s t → (ts : List Standing) → IsRound test round known (drop (i + 1) ss) ts → IsRound test round known ss ((out ++ t ∷ []) ++ ts)
    goes t marked ts rest =
        subst (IsRound test round known ss) (sym (append_assoc out (t ∷ []) ts)) (h.goes_on (t ∷ ts) (subst (λ ys. IsRound test round known ys (t ∷ ts)) (sym front) (next marked rest)))

    halts : (t : Standing) → IsMarked test round known s t → (c : Candidate) → StopsAt test round known (drop (i + 1) ss) c → StopsAt test round known ss c
    halts t marked c rest = h.stops c (subst (λ ys. StopsAt test round known ys c) (sym front) (later marked rest))

    pub round_same : (t : Standing) → t ≡ s → IsMarked test round known s t → IsInRound test round known ss (i + 1) (out ++ t ∷ []) gained
    round_same t e marked =
        let counts : length (known_in t.candidate t.round) ≡ length (known_in s.candidate s.round) = ap (λ (u : Standing). length (known_in u.candidate u.round)) e in
        let before = ap number_passed begun ∙ passed_more (take i ss) s in
        let after = passed_more out t in
        let fewer = h.fewer in
        record {
          goes_on = goes t marked;
          stops = halts t marked;
          same = λ none. ap (λ ys. ys ++ t ∷ []) (h.same none) ∙ ap (λ (u : Standing). take i ss ++ u ∷ []) e ∙ sym begun;
          fewer = omega (arith, fewer, before, after, counts);
          more = λ some. let more = h.more some in omega (arith, more, before, after, counts);
        }

    pub round_passes : (t : Standing) → s.round ≡ None → t ≡ passed_in round s.candidate → IsMarked test round known s t → IsInRound test round known ss (i + 1) (out ++ t ∷ []) true
    round_passes t open_before e marked =
        let none : length (known_in s.candidate s.round) ≡ 0 = ap (λ o. length (known_in s.candidate o)) open_before in
        let one : length (known_in t.candidate t.round) ≡ 1 = ap (λ (u : Standing). length (known_in u.candidate u.round)) e in
        let before = ap number_passed begun ∙ passed_more (take i ss) s in
        let after = passed_more out t in
        let fewer = h.fewer in
        record {
          goes_on = goes t marked;
          stops = halts t marked;
          same = λ e. cc;
          fewer = omega (arith, fewer, before, none, after, one);
          more = λ some. omega (arith, fewer, before, none, after, one);
        }

-- ---- rounds

-- where all have passed, a round changes nothing
abbrev AllPassed : List Standing → Type 0
AllPassed ss = length ss ≤ number_passed ss

known_few : (c : Candidate) (o : Option ℕ) → length (known_in c o) ≤ 1
known_few c None = omega arith
known_few c (Some k) = omega arith

pub passed_few : (ss : List Standing) → number_passed ss ≤ length ss
passed_few [] = omega arith
passed_few (s ∷ ss) = omega (arith, passed_few ss, known_few s.candidate s.round, length-append (known_in s.candidate s.round) (known_of ss))

has_round : (s : Standing) (o : Option ℕ) → s.round ≡ o → 1 ≤ length (known_in s.candidate o) → (k : ℕ) × (s.round ≡ Some k)
has_round s None e le = absurd (omega (arith, le))
has_round s (Some k) e le = (k, e)

all_passed_fixed : (test : Tests) (round : ℕ) (known : List Candidate) (ss : List Standing) → AllPassed ss → IsRound test round known ss ss
all_passed_fixed test round known [] h = no_more
all_passed_fixed test round known (s ∷ ss) h =
    let both = length-append (known_in s.candidate s.round) (known_of ss) in
    let one = known_few s.candidate s.round in
    let rest = passed_few ss in
    let marked = has_round s s.round refl (omega (arith, h, both, one, rest)) in
    next (passed_before marked.1) (all_passed_fixed test round known ss (omega (arith, h, both, one, rest)))

-- so many rounds have been made, and at least so many candidates have passed
pub record IsInRounds (test : Tests) (cs : List Candidate) (rounds : ℕ) (ss : List Standing) : Type 0 where
  pub after : IsAfter test cs rounds ss
  pub passed : rounds ≤ number_passed ss
  pub long : length ss ≡ length cs

pub rounds_start : (test : Tests) (cs : List Candidate) (ss : List Standing) → ss ≡ map standing_of cs → IsInRounds test cs 0 ss
rounds_start test cs ss e = subst (IsInRounds test cs 0) (sym e) (record { after = start; passed = omega arith; long = long cs })
  where
    long : (cs : List Candidate) → length (map standing_of cs) ≡ length cs
    long [] = refl
    long (c ∷ cs) = ap suc (long cs)

round_long : {test : Tests} {round : ℕ} {known : List Candidate} {ss ts : List Standing} → IsRound test round known ss ts → length ts ≡ length ss
round_long no_more = refl
round_long (next marked rest) = ap suc (round_long rest)

module _ (test : Tests) (cs : List Candidate) (rounds : ℕ) (ss : List Standing) (h : IsInRounds test cs rounds ss) where
  pub rounds_next : (ts : List Standing) → HasGained test (rounds + 1) (known_of ss) ss ts → IsInRounds test cs (rounds + 1) ts
  rounds_next ts gained = record {
    after = one_more h.after gained.made gained.more;
    passed = omega (arith, h.passed, gained.more);
    long = round_long gained.made ∙ h.long;
  }

  pub rounds_fixed : (found : List Found) → found ≡ found_of ss → IsRound test (rounds + 1) (known_of ss) ss ss → IsFixed test cs found
  rounds_fixed found e last = record { rounds = rounds; standings = ss; after = h.after; last = last; told = e }

  pub rounds_stopped : (c : Candidate) → StopsAt test (rounds + 1) (known_of ss) ss c → IsStopped test cs (rounds + 1) c
  rounds_stopped c stops = record { rounds = rounds; standings = ss; after = h.after; number = refl; stops = stops }

  pub rounds_done : (found : List Found) → found ≡ found_of ss → length cs ≤ rounds → IsFixed test cs found
  rounds_done found e le = rounds_fixed found e (all_passed_fixed test (rounds + 1) (known_of ss) ss (omega (arith, le, h.passed, h.long)))

-- ---- over the specification

known_in_over : (p : Candidate → Bool) (c : Candidate) (o : Option ℕ) (cs : List Candidate) → p c ≡ true → list_all p cs ≡ true → list_all p (known_in c o ++ cs) ≡ true
known_in_over p c None cs h k = k
known_in_over p c (Some r) cs h k = and_from _ _ h k

known_pass : (p : Candidate → Bool) (ss : List Standing) → list_all (λ (s : Standing). p s.candidate) ss ≡ true → list_all p (known_of ss) ≡ true
known_pass p [] h = refl
known_pass p (s ∷ ss) h =
    let both = and_parts (p s.candidate) (list_all (λ (t : Standing). p t.candidate) ss) h in
    known_in_over p s.candidate s.round (known_of ss) both.0 (known_pass p ss both.1)

pub known_over : (spec : Data) (class : ℕ) (ss : List Standing) (known : List Candidate) → known ≡ known_of ss → AreStandingOver spec class ss → AreOver spec class known
known_over spec class ss known e h = subst (AreOver spec class) (sym e) (known_pass (is_candidate_over spec class) ss h)

pub standing_pass : (p : Candidate → Bool) (cs : List Candidate) → list_all p cs ≡ true → list_all (λ (s : Standing). p s.candidate) (map standing_of cs) ≡ true
standing_pass p [] h = refl
standing_pass p (c ∷ cs) h = let both = and_parts (p c) (list_all p cs) h in and_from _ _ both.0 (standing_pass p cs both.1)

pub standing_over : (spec : Data) (class : ℕ) (cs : List Candidate) (ss : List Standing) → ss ≡ map standing_of cs → AreOver spec class cs → AreStandingOver spec class ss
standing_over spec class cs ss e h = subst (AreStandingOver spec class) (sym e) (standing_pass (is_candidate_over spec class) cs h)

marked_same : {test : Tests} {round : ℕ} {known : List Candidate} {s t : Standing} → IsMarked test round known s t → t.candidate ≡ s.candidate
marked_same (passed_before e) = refl
marked_same (fails e b) = refl
marked_same (passes e k) = refl

pub round_pass : (p : Candidate → Bool) {test : Tests} {round : ℕ} {known : List Candidate} {ss ts : List Standing} → IsRound test round known ss ts → list_all (λ (s : Standing). p s.candidate) ss ≡ true
    → list_all (λ (s : Standing). p s.candidate) ts ≡ true
round_pass p no_more h = refl
round_pass p (next {s = s} {ss = ss} marked rest) h =
    let both = and_parts (p s.candidate) (list_all (λ (t : Standing). p t.candidate) ss) h in
    and_from _ _ (ap p (marked_same marked) ∙ both.0) (round_pass p rest both.1)

pub round_over : (spec : Data) (class : ℕ) (test : Tests) (round : ℕ) (known : List Candidate) (ss ts : List Standing) → HasGained test round known ss ts → AreStandingOver spec class ss → AreStandingOver spec class ts
round_over spec class test round known ss ts gained h = round_pass (is_candidate_over spec class) gained.made h
