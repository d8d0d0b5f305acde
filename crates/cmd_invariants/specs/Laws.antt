-- The law of what is derived.
use Rattle.std.specs.Prelude.{◌≡◌, ℕ, List, [], map, Option, IsTrue}
use Rattle.std.specs.List.{AllByRecursion}
use Rattle.scr_spec.specs.Data.{Data}
use Rattle.scr_spec.specs.Meaning.{Codes}
use Rattle.scr_spec.specs.declared.state.Input.{Input}
use Rattle.scr_resolve.specs.Texts.{Spells}
use Rattle.scr_depend.specs.declared.order.Order.{Order}
use Rattle.run_step.specs.Runs.{IsRun}
use Rattle.prove_candidates.specs.declared.candidate.Candidate.{Candidate}
use Rattle.prove_invariants.specs.declared.derived.Derived.{Derived}
use Rattle.prove_invariants.specs.declared.derived.Derived.TheVariants as derived
use Rattle.prove_invariants.specs.Holds.{holds_in}
use Rattle.prove_invariants.specs.Derivations.{classes_of, HasDerived}
use Rattle.cmd_work.specs.declared.status.Status.{Status}
use Rattle.cmd_work.specs.declared.status.Status.TheVariants.{Done}
use Rattle.cmd_work.specs.Ends.{IsFront}
use Rattle.cmd_checked.specs.Checking.{Passes}
use Rattle.cmd_invariants.specs.declared.derivation.Derivation.{Derivation}
use Rattle.cmd_invariants.specs.Texts.{classes_text}
use Rattle.cmd_invariants.specs.Derives.{DerivesText, DerivesFile}

-- each candidate that is found for the class holds in each of the states
abbrev pub HoldThroughout : Data → List Codes → ℕ → Derived → Type 0
HoldThroughout spec states class (derived.All list) = AllByRecursion (λ f. AllByRecursion (λ at. IsTrue (holds_in spec class at f.candidate)) states) list
HoldThroughout spec states class (derived.Undecided round c) = Unit {0}

-- the bytes are the lines on these, one for each class; all that is found holds in every state of every run
pub record PrintsWhatHolds (spec : Data) (bytes : List ℕ) : Type 0 where
  pub list : List Derivation
  pub classes : map (λ d. d.class) list ≡ classes_of spec
  pub printed : bytes ≡ classes_text spec list
  pub hold : (inputs : List Input) (states : List Codes) → IsRun spec inputs states → AllByRecursion (λ d. HoldThroughout spec states d.class d.derived) list

-- the class is decided: no candidate of it has a test past the limit
abbrev pub IsDecided : Data → List ℕ → ℕ → ℕ → Type 0
IsDecided spec order limit class = (round : ℕ) (c : Candidate) → HasDerived spec order class limit (derived.Undecided round c) → ⊥

-- so it is with each class of the specification
abbrev pub AreDecided : Data → List ℕ → ℕ → Type 0
AreDecided spec order limit = AllByRecursion (IsDecided spec order limit) (classes_of spec)

pub record OneDerivation : Type 0 where
  -- a file has one answer, and never none
  pub once : (limit : ℕ) (held : Option (List ℕ)) (x y : List ℕ) (i j : Status) → DerivesFile limit held x i → DerivesFile limit held y j → (x ≡ y) × (i ≡ j)
  pub some : (limit : ℕ) (held : Option (List ℕ)) → IsFront (DerivesFile limit held) []
  -- for a text that passes, whether or not a class is undecided, what is printed as found holds
  pub hold : (limit : ℕ) (text bytes : List ℕ) (status : Status) (spec : Data) (order : Order) → Passes limit text spec order → DerivesText limit text bytes status → PrintsWhatHolds spec bytes
  -- and each text that is answered with `Done` passes
  pub done : (limit : ℕ) (text bytes : List ℕ) → DerivesText limit text bytes Done → (spec : Data) → Spells text spec → PrintsWhatHolds spec bytes
  -- one that passes, and each of whose classes is decided, is answered with `Done`
  pub decided : (limit : ℕ) (text bytes : List ℕ) (status : Status) (spec : Data) (order : Order) → Passes limit text spec order → AreDecided spec order.list limit
      → DerivesText limit text bytes status → status ≡ Done
