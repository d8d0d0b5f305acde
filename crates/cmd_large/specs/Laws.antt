-- The law of summaries.
use Rattle.std.specs.Prelude.{◌≡◌, ℕ, List, []}
use Rattle.scr_spec.specs.Data.{Data}
use Rattle.scr_spec.specs.Meaning.{Codes}
use Rattle.scr_depend.specs.declared.order.Order.{Order}
use Rattle.run_step.specs.Runs.{IsInitial}
use Rattle.prove_candidates.specs.declared.candidate.Candidate.{Candidate}
use Rattle.prove_invariants.specs.declared.derived.Derived.TheVariants as derived
use Rattle.run_script.specs.declared.fault.ScriptFault.{ScriptFault}
use Rattle.cmd_work.specs.declared.status.Status.{Status}
use Rattle.cmd_work.specs.declared.status.Status.TheVariants.{Done}
use Rattle.cmd_work.specs.Ends.{IsFront}
use Rattle.cmd_checked.specs.Checking.{Passes}
use Rattle.cmd_generate.specs.Chain.{chain_text}
use Rattle.dd_store.specs.declared.store.TheConstants.{SPLIT_LIMIT}
use Rattle.cmd_large.specs.Summaries.{phase_of, IsDerivedFor, FailsAt, TextSummary, LargeAnswers}

-- the class whose invariants are derived is decided, if there is one
abbrev pub IsPhaseDecided : Data → List ℕ → Type 0
IsPhaseDecided spec order = (round : ℕ) (c : Candidate) → IsDerivedFor spec order (phase_of spec) (derived.Undecided round c) → ⊥

-- none of the lines that are simulated is faulty
abbrev pub NoneFails : Data → Type 0
NoneFails spec = (first : Codes) (line : ℕ) (fault : ScriptFault) → IsInitial spec first → FailsAt spec first line fault → ⊥

pub record OneSummary : Type 0 where
  -- a text has one summary, and never none
  pub text_once : (stages : ℕ) (text x y : List ℕ) (i j : Status) → TextSummary stages text x i → TextSummary stages text y j → (x ≡ y) × (i ≡ j)
  pub text_some : (stages : ℕ) (text : List ℕ) → IsFront (TextSummary stages text) []
  -- so each chain has one answer of `large`, and never none
  pub once : (n : ℕ) (x y : List ℕ) (i j : Status) → LargeAnswers n x i → LargeAnswers n y j → (x ≡ y) × (i ≡ j)
  pub some : (n : ℕ) → IsFront (LargeAnswers n) []
  -- with `Done` where it passes its checks, its class is decided, and none of the lines that are simulated is faulty
  pub done : (n : ℕ) (spec : Data) (order : Order) (bytes : List ℕ) (status : Status) → Passes SPLIT_LIMIT (chain_text n) spec order → IsPhaseDecided spec order.list → NoneFails spec
      → LargeAnswers n bytes status → status ≡ Done
