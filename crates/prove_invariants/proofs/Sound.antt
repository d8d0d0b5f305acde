-- What is found holds in every state of every run: the induction over the rounds, and in it that over the run.
use Rattle.std.proofs.Common.{◌≡◌, ℕ, ◌<◌, Bool, true, false, not, cond, Option, Some, None, List, [], ◌∷◌, ◌++◌, map, length, refl, sym, subst, ◌∙◌, arith, IsTrue}
use Rattle.std.specs.Prelude.{slice_get}
use Rattle.std.specs.Option.{option_map_or}
use Rattle.std.specs.List.{All, AllByRecursion as Each, filter, range_with_len}
use Rattle.std.proofs.lemmas.Bool.{false≢true}
use Rattle.std.proofs.lemmas.List.Elements.{All-map, All-from_recursion}
use Rattle.std.proofs.lemmas.List.FromFn.{get_or-map-range_with_len, length-map-range_with_len}
use Rattle.std.proofs.lemmas.Option.{slice_get_within}
use Rattle.scr_spec.specs.Data.{Data}
use Rattle.scr_spec.specs.declared.spec.Variable.{Variable}
use Rattle.scr_spec.specs.declared.spec.Role.{Role}
use Rattle.scr_spec.specs.declared.spec.Role.TheVariants.{Monitored, Mode, Term, Controlled}
use Rattle.scr_spec.specs.declared.state.Input.{Input}
use Rattle.scr_spec.specs.Roles.{is_monitored_role, is_class_role}
use Rattle.scr_spec.specs.Meaning.{Codes}
use Rattle.scr_spec.specs.Relations.{is_monitored, is_dependent}
use Rattle.prove_candidates.specs.declared.candidate.Candidate.{Candidate}
use Rattle.run_step.specs.Runs.{IsInitial, IsRun}
use Rattle.prove_invariants.specs.declared.derived.Found.{Found}
use Rattle.prove_invariants.specs.declared.standing.Standing.{Standing}
use Rattle.prove_invariants.specs.declared.change.Tested.TheVariants.{Kept}
use Rattle.prove_invariants.specs.Holds.{holds_in, IsKeptBy}
use Rattle.prove_goals.specs.Goals.{monitored_variables}
use Rattle.prove_invariants.specs.Tests.{AreTested, all_kept, kept, IsTested, tested}
use Rattle.prove_invariants.specs.Rounds.{Tests, standing_of, known_in, known_of, found_in, found_of, passed_before, fails, passes, IsRound, no_more, next, IsAfter, start, one_more, IsFixed}
use Rattle.prove_invariants.specs.Laws.{InvariantsHold}
use Rattle.prove_invariants.proofs.OverRuns.{RunsKeep, runs_keep, HoldsEverywhere, kept_everywhere, in_every_state}

-- ---- over rounds

-- of a candidate that has passed
abbrev pub IfPassed : (Candidate → Type 0) → Candidate → Option ℕ → Type 0
IfPassed P c None = Unit {0}
IfPassed P c (Some k) = P c

-- of each that has
abbrev pub OfPassed : (Candidate → Type 0) → List Standing → Type 0
OfPassed P ss = Each (λ (s : Standing). IfPassed P s.candidate s.round) ss

none_passed : (P : Candidate → Type 0) (cs : List Candidate) → OfPassed P (map standing_of cs)
none_passed P [] = tt
none_passed P (c ∷ cs) = (tt, none_passed P cs)

known_first : (P : Candidate → Type 0) (c : Candidate) (o : Option ℕ) (cs : List Candidate) → IfPassed P c o → Each P cs → Each P (known_in c o ++ cs)
known_first P c None cs h k = k
known_first P c (Some r) cs h k = (h, k)

known_passed : (P : Candidate → Type 0) (ss : List Standing) → OfPassed P ss → Each P (known_of ss)
known_passed P [] h = tt
known_passed P (s ∷ ss) h = known_first P s.candidate s.round (known_of ss) h.0 (known_passed P ss h.1)

abbrev OfFound : (Candidate → Type 0) → List Found → Type 0
OfFound P found = Each (λ (f : Found). P f.candidate) found

found_first : (P : Candidate → Type 0) (c : Candidate) (o : Option ℕ) (fs : List Found) → IfPassed P c o → OfFound P fs → OfFound P (found_in c o ++ fs)
found_first P c None fs h k = k
found_first P c (Some r) fs h k = (h, k)

found_passed : (P : Candidate → Type 0) (ss : List Standing) → OfPassed P ss → OfFound P (found_of ss)
found_passed P [] h = tt
found_passed P (s ∷ ss) h = found_first P s.candidate s.round (found_of ss) h.0 (found_passed P ss h.1)

module _ (P : Candidate → Type 0) (test : Tests) (passing : (known : List Candidate) (c : Candidate) → Each P known → test known c Kept → P c) where
  round_passed : {round : ℕ} {known : List Candidate} {ss ts : List Standing} → Each P known → IsRound test round known ss ts → OfPassed P ss → OfPassed P ts
  round_passed each no_more h = tt
  round_passed each (next (passed_before e) rest) h = (h.0, round_passed each rest h.1)
  round_passed each (next (fails e b) rest) h = (h.0, round_passed each rest h.1)
  round_passed each (next (passes e k) rest) h = (passing _ _ each k, round_passed each rest h.1)

  after_passed : {cs : List Candidate} {rounds : ℕ} {ss : List Standing} → IsAfter test cs rounds ss → OfPassed P ss
  after_passed {cs = cs} start = none_passed P cs
  after_passed (one_more {ss = ss} before step gained) =
      let h = after_passed before in round_passed (known_passed P ss h) step h

  fixed_sound : (cs : List Candidate) (found : List Found) → IsFixed test cs found → OfFound P found
  fixed_sound cs found h = subst (OfFound P) (sym h.told) (found_passed P h.standings (after_passed h.after))

-- ---- a test that ends well

all_kept_by : (spec : Data) (order need : List ℕ) (class limit : ℕ) (known : List Candidate) (c : Candidate) {xs : List ℕ} → AreTested spec order need class limit known c xs Kept → Each (IsKeptBy spec class known c) xs
all_kept_by spec order need class limit known c all_kept = tt
all_kept_by spec order need class limit known c (kept k rest) = (k.kept, all_kept_by spec order need class limit known c rest)

kept_filter : (P : ℕ → Type 0) (q : ℕ → Bool) (ys : List ℕ) → Each P (filter q ys) → Each (λ y. q y ≡ true → P y) ys
kept_filter P q [] h = tt
kept_filter P q (y ∷ ys) h =
    elim (q y) as (λ b. q y ≡ b → Each P (cond b (y ∷ filter q ys) (filter q ys)) → Each (λ z. q z ≡ true → P z) (y ∷ ys)) [
      | true ↦ λ e k. ((λ t. k.0), kept_filter P q ys k.1)
      | false ↦ λ e k. ((λ t. absurd (false≢true (sym e ∙ t))), kept_filter P q ys k)
    ] refl h

in_range : (R : ℕ → Type 0) (n : ℕ) → Each R (range_with_len 0 n) → (k : ℕ) → k < n → R k
in_range R n each k lt =
    let all : All R (map (λ (x : ℕ). x) (range_with_len 0 n)) = All-map R (λ (x : ℕ). x) (range_with_len 0 n) (All-from_recursion R (range_with_len 0 n) each) in
    subst R (get_or-map-range_with_len (λ (x : ℕ). x) 0 n k k 0 lt (omega arith)) (all k 0 (omega (arith, lt, length-map-range_with_len (λ (x : ℕ). x) 0 n)))

there : (spec : Data) (x : ℕ) (o : Option Variable) → slice_get spec.variables x ≡ o → option_map_or (λ (v : Variable). is_monitored_role v.role) o false ≡ true → x < length spec.variables
there spec x None e h = absurd (false≢true h)
there spec x (Some v) e h = slice_get_within spec.variables x v e

pub each_monitored : (spec : Data) (P : ℕ → Type 0) → Each P (monitored_variables spec) → (x : ℕ) → IsTrue (is_monitored spec x) → P x
each_monitored spec P each x h =
    in_range (λ y. is_monitored spec y ≡ true → P y) (length spec.variables) (kept_filter P (is_monitored spec) (range_with_len 0 (length spec.variables)) each) x (there spec x (slice_get spec.variables x) refl h) h

-- ---- a class is dependent

class_role : (r : Role) → is_class_role r ≡ true → not (is_monitored_role r) ≡ true
class_role Monitored h = absurd (false≢true h)
class_role Mode h = refl
class_role Term h = absurd (false≢true h)
class_role Controlled h = absurd (false≢true h)

class_found : (o : Option Variable) → option_map_or (λ (v : Variable). is_class_role v.role) o false ≡ true → option_map_or (λ (v : Variable). not (is_monitored_role v.role)) o false ≡ true
class_found None h = h
class_found (Some v) h = class_role v.role h

-- ---- the law

passes_everywhere : (spec : Data) (order need : List ℕ) (class limit : ℕ) (at_first : Codes) → RunsKeep spec class → IsTrue (is_dependent spec class) → IsInitial spec at_first
    → (known : List Candidate) (c : Candidate) → Each (HoldsEverywhere spec class) known → IsTested spec order need class limit at_first known c Kept → HoldsEverywhere spec class c
passes_everywhere spec order need class limit at_first runs dependent initial known c each (tested holds tests) =
    kept_everywhere spec class runs dependent at_first known c initial each holds
    (each_monitored spec (IsKeptBy spec class known c) (all_kept_by spec order need class limit known c tests))

every_found : (spec : Data) (class : ℕ) (inputs : List Input) (states : List Codes) → IsRun spec inputs states → RunsKeep spec class → IsTrue (is_dependent spec class) → (found : List Found)
    → Each (λ (f : Found). HoldsEverywhere spec class f.candidate) found → Each (λ (f : Found). Each (λ (at : Codes). IsTrue (holds_in spec class at f.candidate)) states) found
every_found spec class inputs states run runs dependent [] h = tt
every_found spec class inputs states run runs dependent (f ∷ fs) h =
    (in_every_state spec class runs dependent f.candidate h.0 inputs states run, every_found spec class inputs states run runs dependent fs h.1)

pub invariants_hold : InvariantsHold
invariants_hold = record {
  hold = λ spec order class limit found checks is_class h inputs states run.
      let runs : RunsKeep spec class = runs_keep spec order class checks in
      let dependent : IsTrue (is_dependent spec class) = class_found (slice_get spec.variables class) is_class in
      let P = HoldsEverywhere spec class in
      let T : Tests = IsTested spec order.list h.need class limit h.first in
      let passing : (known : List Candidate) (c : Candidate) → Each P known → T known c Kept → P c = λ known c each k. passes_everywhere spec order.list h.need class limit h.first runs dependent h.initial known c each k in
      every_found spec class inputs states run runs dependent found (fixed_sound P T passing h.candidates found h.derived_is);
}
