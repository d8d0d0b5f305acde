-- Something is derived for a class.
use Rattle.std.proofs.Common.{◌≡◌, ◌⊎◌, ℕ, zero, suc, ◌+◌, ◌<◌, ◌≤◌, true, false, Option, Some, None, List, [], ◌∷◌, map, length, refl, ap, subst, inl, inr, arith, length-append}
use Rattle.std.proofs.lemmas.Bool.{cases_lt}
use Rattle.scr_spec.specs.Data.{Data}
use Rattle.scr_spec.specs.Meaning.{Codes}
use Rattle.prove_candidates.specs.declared.candidate.Candidate.{Candidate}
use Rattle.prove_invariants.specs.declared.standing.Standing.{Standing}
use Rattle.prove_invariants.specs.declared.derived.Derived.{Derived}
use Rattle.prove_invariants.specs.declared.derived.Derived.TheVariants.{All, Undecided}
use Rattle.prove_invariants.specs.declared.change.Tested.{Tested}
use Rattle.prove_invariants.specs.declared.change.Tested.TheVariants.{Kept, Broken, Past}
use Rattle.prove_invariants.specs.Holds.{holds_in}
use Rattle.prove_goals.specs.Goals.{monitored_variables}
use Rattle.prove_invariants.specs.Tests.{test_nodes, IsChangeTested, AreTested, all_kept, kept, broken, past, IsTested, false_at_first, tested}
use Rattle.prove_invariants.specs.Rounds.{Tests, standing_of, passed_in, known_in, known_of, found_of, number_passed, IsMarked, passed_before, fails, passes, IsRound, no_more, next, StopsAt, here, later, IsDerived}
use Rattle.prove_invariants.proofs.Progress.{IsInRounds, rounds_start, rounds_next, rounds_fixed, rounds_stopped, rounds_done}

-- ---- a test ends

module _ (spec : Data) (order need : List ℕ) (class limit : ℕ) (known : List Candidate) (c : Candidate) where
  some_change : (x : ℕ) → ((outcome : Tested) → IsChangeTested spec order need class limit known c x outcome → ⊥) → ⊥
  some_change x none =
      elim (cases_lt limit (test_nodes spec order need class known c x)) [
        | inl over ↦ none Past (record { past = over })
        | inr within ↦ none Kept (record { within = within; kept = λ old new b. none Broken (record { within = within; old = old; new = new; broken = b }) })
      ]

  some_outcome : (xs : List ℕ) → ((outcome : Tested) → AreTested spec order need class limit known c xs outcome → ⊥) → ⊥
  some_outcome [] none = none Kept all_kept
  some_outcome (x ∷ xs) none = some_change x (by (λ behind. some_outcome xs behind))
    where
      by : (((outcome : Tested) → AreTested spec order need class limit known c xs outcome → ⊥) → ⊥) → (outcome : Tested) → IsChangeTested spec order need class limit known c x outcome → ⊥
      by behind Kept h = behind (λ outcome more. none outcome (kept h more))
      by behind Broken h = none Broken (broken h)
      by behind Past h = none Past (past h)

  some_test : (first : Codes) → ((outcome : Tested) → IsTested spec order need class limit first known c outcome → ⊥) → ⊥
  some_test first none =
      elim (holds_in spec class first c) as (λ b. holds_in spec class first c ≡ b → ⊥) [
        | true ↦ λ holds. some_outcome (monitored_variables spec) (λ outcome h. none outcome (tested holds h))
        | false ↦ λ e. none Broken (false_at_first e)
      ] refl

-- ---- in a round either some candidate passes, or nothing changes

abbrev Gains : List Standing → List Standing → Type 0
Gains ss ts = (number_passed ss < number_passed ts) ⊎ (ts ≡ ss)

no_fewer : (ss ts : List Standing) → Gains ss ts → number_passed ss ≤ number_passed ts
no_fewer ss ts (inl more) = omega (arith, more)
no_fewer ss ts (inr same) = let e = ap number_passed same in omega (arith, e)

number_first : (s : Standing) (ss : List Standing) → number_passed (s ∷ ss) ≡ length (known_in s.candidate s.round) + number_passed ss
number_first s ss = length-append (known_in s.candidate s.round) (known_of ss)

gains_behind : (s : Standing) (ss ts : List Standing) → Gains ss ts → Gains (s ∷ ss) (s ∷ ts)
gains_behind s ss ts (inl more) = inl (omega (arith, more, number_first s ss, number_first s ts))
gains_behind s ss ts (inr same) = inr (ap (λ us. s ∷ us) same)

gains_first : (round : ℕ) (s : Standing) (ss ts : List Standing) → s.round ≡ None → Gains ss ts → Gains (s ∷ ss) (passed_in round s.candidate ∷ ts)
gains_first round s ss ts e h =
    let none : length (known_in s.candidate s.round) ≡ 0 = ap (λ o. length (known_in s.candidate o)) e in
    inl (omega (arith, no_fewer ss ts h, none, number_first s ss, number_first (passed_in round s.candidate) ts))

gains : {test : Tests} {round : ℕ} {known : List Candidate} {ss ts : List Standing} → IsRound test round known ss ts → Gains ss ts
gains no_more = inr refl
gains (next (passed_before e) rest) = gains_behind _ _ _ (gains rest)
gains (next (fails e b) rest) = gains_behind _ _ _ (gains rest)
gains (next (passes e k) rest) = gains_first _ _ _ _ e (gains rest)

-- ---- rounds end

module _ (test : Tests) (some : (known : List Candidate) (c : Candidate) → ((outcome : Tested) → test known c outcome → ⊥) → ⊥) where
  module _ (round : ℕ) (known : List Candidate) where
    some_mark : (s : Standing) → ((t : Standing) → IsMarked test round known s t → ⊥) → (s.round ≡ None → test known s.candidate Past → ⊥) → ⊥
    some_mark s none over = by s.round refl
      where
        tell : s.round ≡ None → (outcome : Tested) → test known s.candidate outcome → ⊥
        tell e Kept k = none (passed_in round s.candidate) (passes e k)
        tell e Broken b = none s (fails e b)
        tell e Past p = over e p

        by : (o : Option ℕ) → s.round ≡ o → ⊥
        by (Some k) e = none s (passed_before e)
        by None e = some known s.candidate (tell e)

    some_round : (ss : List Standing) → ((ts : List Standing) → IsRound test round known ss ts → ⊥) → ((c : Candidate) → StopsAt test round known ss c → ⊥) → ⊥
    some_round [] none stops = none [] no_more
    some_round (s ∷ ss) none stops =
        some_mark s (λ t marked. some_round ss (λ ts rest. none (t ∷ ts) (next marked rest)) (λ c behind. stops c (later marked behind))) (λ e p. stops s.candidate (here e p))

  module _ (cs : List Candidate) (none : (derived : Derived) → IsDerived test cs derived → ⊥) where
    no_end_behind : (n rounds : ℕ) (ss : List Standing) → IsInRounds test cs rounds ss → length cs ≤ n + rounds → ⊥
    no_end_behind zero rounds ss h le = none (All (found_of ss)) (rounds_done test cs rounds ss h (found_of ss) refl (omega (arith, le)))
    no_end_behind (suc n) rounds ss h le =
        some_round (rounds + 1) (known_of ss) ss (λ ts made.
        elim (gains made) [
          | inl more ↦ no_end_behind n (rounds + 1) ts (rounds_next test cs rounds ss h ts (record { made = made; more = more })) (omega (arith, le))
          | inr same ↦ none (All (found_of ss)) (rounds_fixed test cs rounds ss h (found_of ss) refl (subst (IsRound test (rounds + 1) (known_of ss) ss) same made))
        ]) (λ c stops. none (Undecided (rounds + 1) c) (rounds_stopped test cs rounds ss h c stops))

    no_end : ⊥
    no_end = no_end_behind (length cs) 0 (map standing_of cs) (rounds_start test cs (map standing_of cs) refl) (omega arith)

pub some_derivation : (spec : Data) (order need : List ℕ) (class limit : ℕ) (first : Codes) (cs : List Candidate)
    → ((derived : Derived) → IsDerived (IsTested spec order need class limit first) cs derived → ⊥) → ⊥
some_derivation spec order need class limit first cs none =
    no_end (IsTested spec order need class limit first) (λ known c. some_test spec order need class limit known c first) cs none
