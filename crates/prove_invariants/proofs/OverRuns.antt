-- What is kept holds in every state of every run: the induction over the run.
use Rattle.std.proofs.Common.{◌≡◌, ℕ, Bool, true, false, List, [], ◌∷◌, refl, subst, IsTrue}
use Rattle.std.specs.List.{AllByRecursion as Each, list_all}
use Rattle.std.proofs.lemmas.Bool.{and_from}
use Rattle.scr_spec.specs.Data.{Data}
use Rattle.scr_spec.specs.Meaning.{Codes}
use Rattle.scr_spec.specs.declared.state.Input.{Input}
use Rattle.scr_spec.specs.Relations.{is_monitored, is_dependent}
use Rattle.prove_candidates.specs.declared.candidate.Candidate.{Candidate}
use Rattle.scr_depend.specs.Related.{IsRelatedBy}
use Rattle.scr_depend.specs.declared.order.Order.{Order}
use Rattle.scr_depend.specs.Passes.{PassesChecks}
use Rattle.run_step.specs.Runs.{IsConsistent, IsInitial, IsStep, Leads, IsRun}
use Rattle.run_step.proofs.Runs.{one_next_state, steps_are_related}
use Rattle.prove_invariants.specs.Holds.{holds_in, IsKeptBy}

-- what the laws of runs tell of a specification: it has one initial state, every state of a run agrees with all
-- condition tables, and so each step of a run is a related pair
pub record RunsKeep (spec : Data) (class : ℕ) : Type 0 where
  pub one_initial : (a b : Codes) → IsInitial spec a → IsInitial spec b → a ≡ b
  pub starts : (at : Codes) → IsInitial spec at → IsConsistent spec at
  pub goes_on : (old : Codes) (input : Input) (new : Codes) → IsStep spec old input new → IsConsistent spec new
  pub related : (old : Codes) (input : Input) (new : Codes) → IsConsistent spec old → IsStep spec old input new → IsRelatedBy spec class input.variable old new

pub runs_keep : (spec : Data) (order : Order) (class : ℕ) → PassesChecks spec order → RunsKeep spec class
runs_keep spec order class passes = record {
  one_initial = λ a b h k. one_next_state.one_initial spec order a b passes h k;
  starts = λ at h. one_next_state.starts spec at h;
  goes_on = λ old input new step. one_next_state.goes_on spec old input new passes.sound step;
  related = λ old input new consistent step. steps_are_related.related spec class old input new passes.sound consistent step;
}

-- a state that runs reach
pub data Reached (spec : Data) : Codes → Type 0 where
  first : {at : Codes} → IsInitial spec at → Reached spec at
  then_by : {old new : Codes} {input : Input} → Reached spec old → IsStep spec old input new → Reached spec new

-- the candidate holds wherever runs lead
abbrev pub HoldsEverywhere : Data → ℕ → Candidate → Type 0
HoldsEverywhere spec class c = (at : Codes) → Reached spec at → IsTrue (holds_in spec class at c)

pub not_false : (b : Bool) → (b ≡ false → ⊥) → b ≡ true
not_false true h = refl
not_false false h = absurd (h refl)

all_known : (spec : Data) (class : ℕ) (at : Codes) → Reached spec at → (known : List Candidate) → Each (HoldsEverywhere spec class) known → IsTrue (list_all (holds_in spec class at) known)
all_known spec class at reached [] h = refl
all_known spec class at reached (c ∷ cs) h = and_from _ _ (h.0 at reached) (all_known spec class at reached cs h.1)

module _ (spec : Data) (class : ℕ) (runs : RunsKeep spec class) (dependent : IsTrue (is_dependent spec class)) where
  consistent : {at : Codes} → Reached spec at → IsConsistent spec at
  consistent (first initial) = runs.starts _ initial
  consistent (then_by reached step) = runs.goes_on _ _ _ step

  -- a candidate that holds at first and that no change breaks, where all that is known holds everywhere
  pub kept_everywhere : (at_first : Codes) (known : List Candidate) (c : Candidate) → IsInitial spec at_first → Each (HoldsEverywhere spec class) known → IsTrue (holds_in spec class at_first c)
      → ((x : ℕ) → IsTrue (is_monitored spec x) → IsKeptBy spec class known c x) → HoldsEverywhere spec class c
  kept_everywhere at_first known c initial each holds kept = everywhere
    where
      everywhere : (at : Codes) → Reached spec at → IsTrue (holds_in spec class at c)
      everywhere at (first is) = subst (λ s. IsTrue (holds_in spec class s c)) (runs.one_initial at_first at initial is) holds
      everywhere at (then_by {old = old} {input = input} reached step) =
          not_false (holds_in spec class at c) (λ fails.
          kept input.variable step.may_come.freely.monitored old at (record {
            related = runs.related old input at (consistent reached) step;
            moves = step.follows.related class dependent;
            known_before = all_known spec class old reached known each;
            before = everywhere old reached;
            after = fails;
          }))

  -- so it does in every state of every run
  along : (c : Candidate) → HoldsEverywhere spec class c → (inputs : List Input) (states : List Codes) (at : Codes) → Reached spec at → Leads (IsStep spec) at inputs states
      → Each (λ s. IsTrue (holds_in spec class s c)) states
  along c holds [] [] at reached h = tt
  along c holds [] (new ∷ states) at reached h = absurd h
  along c holds (input ∷ inputs) [] at reached h = absurd h
  along c holds (input ∷ inputs) (new ∷ states) at reached h =
      let there = then_by reached h.0 in (holds new there, along c holds inputs states new there h.1)

  pub in_every_state : (c : Candidate) → HoldsEverywhere spec class c → (inputs : List Input) (states : List Codes) → IsRun spec inputs states → Each (λ s. IsTrue (holds_in spec class s c)) states
  in_every_state c holds inputs [] h = absurd h
  in_every_state c holds inputs (at ∷ states) h = (holds at (first h.0), along c holds inputs states at (first h.0) h.1)
