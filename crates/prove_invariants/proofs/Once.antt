-- The rounds of tests end in one way, and one thing is derived for a class.
use Rattle.std.proofs.Common.{◌≡◌, ℕ, ◌+◌, ◌<◌, None, List, ◌∷◌, refl, sym, ap, ap₂, subst, ◌∙◌, inl, inr, arith}
use Rattle.std.proofs.lemmas.Bool.{cases_lt, cases_eq, false≢true}
use Rattle.scr_spec.specs.Data.{Data}
use Rattle.scr_spec.specs.Meaning.{Codes}
use Rattle.prove_candidates.specs.declared.candidate.Candidate.{Candidate}
use Rattle.prove_invariants.specs.declared.standing.Standing.{Standing}
use Rattle.prove_invariants.specs.declared.derived.Found.{Found}
use Rattle.prove_invariants.specs.declared.derived.Derived.{Derived}
use Rattle.prove_invariants.specs.declared.derived.Derived.TheVariants.{All, Undecided}
use Rattle.prove_invariants.specs.declared.change.Tested.{Tested}
use Rattle.prove_invariants.specs.declared.change.Tested.TheVariants.{Kept, Broken, Past}
use Rattle.prove_invariants.specs.Tests.{AreTested, all_kept, kept, broken, past, IsTested, false_at_first, tested}
use Rattle.prove_invariants.specs.Rounds.{Tests, known_of, found_of, number_passed, IsMarked, passed_before, fails, passes, IsRound, no_more, next, StopsAt, here, later, IsAfter, start, one_more, IsFixed, IsStopped, IsDerived}
use Rattle.scr_depend.specs.Dependencies.{graph_of}
use Rattle.scr_depend.specs.declared.order.Order.{Order}
use Rattle.scr_depend.proofs.SomeNeed.{some_need}
use Rattle.scr_depend.specs.Passes.{PassesChecks}
use Rattle.run_step.specs.Runs.{IsInitial}
use Rattle.run_step.proofs.Runs.{one_next_state}
use Rattle.prove_candidates.proofs.Once.{one_list}
use Rattle.scr_depend.proofs.OneNeed.{one_need}
use Rattle.prove_invariants.specs.Derivations.{HasDerived}
use Rattle.prove_invariants.specs.Laws.{OneDerived}
use Rattle.prove_invariants.proofs.SomeDerived.{some_derivation}

-- ---- a test ends in one way

module _ (spec : Data) (order need : List ℕ) (class limit : ℕ) (known : List Candidate) (c : Candidate) where
  one_outcome : {xs : List ℕ} {a b : Tested} → AreTested spec order need class limit known c xs a → AreTested spec order need class limit known c xs b → a ≡ b
  one_outcome all_kept all_kept = refl
  one_outcome (kept h more) (kept k rest) = one_outcome more rest
  one_outcome (kept h more) (broken b) = absurd (h.kept b.old b.new b.broken)
  one_outcome (kept h more) (past p) = let a = h.within in let b = p.past in absurd (omega arith)
  one_outcome (broken b) (kept k rest) = absurd (k.kept b.old b.new b.broken)
  one_outcome (broken b) (broken d) = refl
  one_outcome (broken b) (past p) = let a = b.within in let d = p.past in absurd (omega arith)
  one_outcome (past p) (kept k rest) = let a = k.within in let b = p.past in absurd (omega arith)
  one_outcome (past p) (broken b) = let a = b.within in let d = p.past in absurd (omega arith)
  one_outcome (past p) (past q) = refl

  one_test : (first : Codes) {a b : Tested} → IsTested spec order need class limit first known c a → IsTested spec order need class limit first known c b → a ≡ b
  one_test first (false_at_first e) (false_at_first g) = refl
  one_test first (false_at_first e) (tested holds h) = absurd (false≢true (sym e ∙ holds))
  one_test first (tested holds h) (false_at_first e) = absurd (false≢true (sym e ∙ holds))
  one_test first (tested holds h) (tested too k) = one_outcome h k

-- ---- rounds of such tests

module _ (test : Tests) (one : (known : List Candidate) (c : Candidate) (a b : Tested) → test known c a → test known c b → a ≡ b) where
  module _ {round : ℕ} {known : List Candidate} where
    one_mark : {s t u : Standing} → IsMarked test round known s t → IsMarked test round known s u → t ≡ u
    one_mark (passed_before e) (passed_before g) = refl
    one_mark (passed_before e) (fails g b) = refl
    one_mark (passed_before e) (passes g k) = cc
    one_mark (fails e b) (passed_before g) = refl
    one_mark (fails e b) (fails g d) = refl
    one_mark (fails e b) (passes g k) = let same = one _ _ Broken Kept b k in cc
    one_mark (passes e k) (passed_before g) = cc
    one_mark (passes e k) (fails g b) = let same = one _ _ Kept Broken k b in cc
    one_mark (passes e k) (passes g m) = refl

    one_round : {ss ts us : List Standing} → IsRound test round known ss ts → IsRound test round known ss us → ts ≡ us
    one_round no_more no_more = refl
    one_round (next a h) (next b k) = ap₂ (λ t ts. t ∷ ts) (one_mark a b) (one_round h k)

    -- what is past the limit is not marked
    past_unmarked : {s t : Standing} → s.round ≡ None → test known s.candidate Past → IsMarked test round known s t → ⊥
    past_unmarked e p (passed_before g) = cc
    past_unmarked e p (fails g b) = let same = one _ _ Past Broken p b in cc
    past_unmarked e p (passes g k) = let same = one _ _ Past Kept p k in cc

    no_round : {ss ts : List Standing} {c : Candidate} → StopsAt test round known ss c → IsRound test round known ss ts → ⊥
    no_round (here e p) (next a h) = past_unmarked e p a
    no_round (later m s) (next a h) = no_round s h

    one_stop : {ss : List Standing} {c d : Candidate} → StopsAt test round known ss c → StopsAt test round known ss d → c ≡ d
    one_stop (here e p) (here g q) = refl
    one_stop (here e p) (later m s) = absurd (past_unmarked e p m)
    one_stop (later m s) (here e p) = absurd (past_unmarked e p m)
    one_stop (later m s) (later n t) = one_stop s t

  module _ (cs : List Candidate) where
    one_after : {r q : ℕ} {ss ts : List Standing} → IsAfter test cs r ss → IsAfter test cs q ts → r ≡ q → ss ≡ ts
    one_after start start e = refl
    one_after start (one_more h step gained) e = absurd (omega arith)
    one_after (one_more h step gained) start e = absurd (omega arith)
    one_after (one_more {rounds = r} {ss = ss} {ts = ts} h step gained) (one_more {rounds = q} {ss = us} {ts = vs} k step_too more) e =
        let rounds : r ≡ q = omega arith in
        let same : ss ≡ us = one_after h k rounds in
        one_round (subst (λ n. IsRound test (n + 1) (known_of us) us ts) rounds (subst (λ ys. IsRound test (r + 1) (known_of ys) ys ts) same step)) step_too

    -- an earlier round, in which some candidate passed
    record WasGained (r : ℕ) : Type 0 where
      before : List Standing
      behind : List Standing
      after : IsAfter test cs r before
      made : IsRound test (r + 1) (known_of before) before behind
      more : number_passed before < number_passed behind

    earlier : (r : ℕ) {q : ℕ} {ts : List Standing} → IsAfter test cs q ts → r < q → WasGained r
    earlier r start lt = absurd (omega arith)
    earlier r (one_more {rounds = q} {ss = ss} {ts = ts} h step gained) lt =
        elim (cases_eq r q) [
          | inl same ↦ subst WasGained (sym same) (record { before = ss; behind = ts; after = h; made = step; more = gained })
          | inr other ↦ earlier r h (omega arith)
        ]

    -- no round comes behind one in which none passes
    none_behind_fixed : (r q : ℕ) (ss ts : List Standing) → IsAfter test cs r ss → IsRound test (r + 1) (known_of ss) ss ss → IsAfter test cs q ts → r < q → ⊥
    none_behind_fixed r q ss ts h last k lt =
        let w = earlier r k lt in
        let same : w.before ≡ ss = one_after w.after h refl in
        let made : IsRound test (r + 1) (known_of ss) ss w.behind = subst (λ ys. IsRound test (r + 1) (known_of ys) ys w.behind) same w.made in
        let fixed = ap number_passed (one_round last made) in
        let more = w.more in
        let start = ap number_passed same in
        omega arith

    -- or one that stops
    none_behind_stopped : (r q : ℕ) (ss ts : List Standing) (c : Candidate) → IsAfter test cs r ss → StopsAt test (r + 1) (known_of ss) ss c → IsAfter test cs q ts → r < q → ⊥
    none_behind_stopped r q ss ts c h stops k lt =
        let w = earlier r k lt in
        let same : w.before ≡ ss = one_after w.after h refl in
        no_round stops (subst (λ ys. IsRound test (r + 1) (known_of ys) ys w.behind) same w.made)

    same_number : (r q : ℕ) → (r < q → ⊥) → (q < r → ⊥) → r ≡ q
    same_number r q a b =
        elim (cases_lt r q) [
          | inl lt ↦ absurd (a lt)
          | inr le ↦ elim (cases_lt q r) [ inl lt ↦ absurd (b lt) | inr ge ↦ omega arith ]
        ]

    one_fixed : (a b : List Found) → IsFixed test cs a → IsFixed test cs b → a ≡ b
    one_fixed a b h k =
        let rounds = same_number h.rounds k.rounds (none_behind_fixed h.rounds k.rounds h.standings k.standings h.after h.last k.after) (none_behind_fixed k.rounds h.rounds k.standings h.standings k.after k.last h.after) in
        h.told ∙ ap found_of (one_after h.after k.after rounds) ∙ sym k.told

    not_both : (a : List Found) (round : ℕ) (c : Candidate) → IsFixed test cs a → IsStopped test cs round c → ⊥
    not_both a round c h k =
        let rounds = same_number h.rounds k.rounds (none_behind_fixed h.rounds k.rounds h.standings k.standings h.after h.last k.after)
        (none_behind_stopped k.rounds h.rounds k.standings h.standings c k.after k.stops h.after) in
        let same = one_after h.after k.after rounds in
        no_round k.stops (subst (λ n. IsRound test (n + 1) (known_of k.standings) k.standings k.standings) rounds (subst (λ ys. IsRound test (h.rounds + 1) (known_of ys) ys ys) same h.last))

    same_stop : (a b : ℕ) (c d : Candidate) (h : IsStopped test cs a c) (k : IsStopped test cs b d) → h.rounds ≡ k.rounds
    same_stop a b c d h k =
        same_number h.rounds k.rounds (none_behind_stopped h.rounds k.rounds h.standings k.standings c h.after h.stops k.after)
        (none_behind_stopped k.rounds h.rounds k.standings h.standings d k.after k.stops h.after)

    one_stopped : (a b : ℕ) (c d : Candidate) → IsStopped test cs a c → IsStopped test cs b d → Undecided a c ≡ Undecided b d
    one_stopped a b c d h k =
        let rounds = same_stop a b c d h k in
        let same = one_after h.after k.after rounds in
        let number : a ≡ b = h.number ∙ ap (λ n. n + 1) rounds ∙ sym k.number in
        let stops : StopsAt test (k.rounds + 1) (known_of k.standings) k.standings c
        = subst (λ n. StopsAt test (n + 1) (known_of k.standings) k.standings c) rounds (subst (λ ys. StopsAt test (h.rounds + 1) (known_of ys) ys c) same h.stops) in
        ap₂ (λ n x. Undecided n x) number (one_stop stops k.stops)

    one_end : (a b : Derived) → IsDerived test cs a → IsDerived test cs b → a ≡ b
    one_end (All a) (All b) h k = ap (λ found. All found) (one_fixed a b h k)
    one_end (All a) (Undecided round c) h k = absurd (not_both a round c h k)
    one_end (Undecided round c) (All a) h k = absurd (not_both a round c k h)
    one_end (Undecided a c) (Undecided b d) h k = one_stopped a b c d h k

one_derivation : (spec : Data) (order need : List ℕ) (class limit : ℕ) (first : Codes) (cs : List Candidate) (a b : Derived) → IsDerived (IsTested spec order need class limit first) cs a
    → IsDerived (IsTested spec order need class limit first) cs b → a ≡ b
one_derivation spec order need class limit first cs a b h k =
    one_end (IsTested spec order need class limit first) (λ known c x y p q. one_test spec order need class limit known c first p q) cs a b h k

once_derived : (spec : Data) (order : Order) (class limit : ℕ) (a b : Derived) → PassesChecks spec order → HasDerived spec order.list class limit a → HasDerived spec order.list class limit b → a ≡ b
once_derived spec order class limit a b checks h k =
    let candidates = one_list.once spec class h.candidates k.candidates h.listed k.listed in
    let need = one_need (graph_of spec) class h.need k.need h.needed k.needed in
    let first = one_next_state.one_initial spec order h.first k.first checks h.initial k.initial in
    let from : IsDerived (IsTested spec order.list h.need class limit h.first) k.candidates a
    = subst (λ cs. IsDerived (IsTested spec order.list h.need class limit h.first) cs a) candidates h.derived_is in
    let needed : IsDerived (IsTested spec order.list k.need class limit h.first) k.candidates a
    = subst (λ n. IsDerived (IsTested spec order.list n class limit h.first) k.candidates a) need from in
    one_derivation spec order.list k.need class limit k.first k.candidates a b (subst (λ f. IsDerived (IsTested spec order.list k.need class limit f) k.candidates a) first needed) k.derived_is

some_derived : (spec : Data) (order : Order) (class limit : ℕ) → PassesChecks spec order → ((derived : Derived) → HasDerived spec order.list class limit derived → ⊥) → ⊥
some_derived spec order class limit checks none =
    let first : (first : Codes) × IsInitial spec first = one_next_state.initial spec order checks in
    one_list.some spec class (λ candidates listed.
    some_need (graph_of spec) class (λ need needed.
    some_derivation spec order.list need class limit first.0 candidates (λ derived is.
    none derived (record { candidates = candidates; listed = listed; need = need; needed = needed; first = first.0; initial = first.1; derived_is = is }))))

pub one_derived : OneDerived
one_derived = record { once = once_derived; some = some_derived }
