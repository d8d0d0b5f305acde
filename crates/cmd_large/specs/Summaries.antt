-- What `large` answers: a summary of checking, deriving and simulating a text.
use Rattle.std.specs.Prelude.{◌≡◌, ℕ, ◌+◌, List, [], ◌∷◌, ◌++◌, length, Option, Some, None, if◌then◌else◌, codes}
use Rattle.std.specs.Option.{option_and_then}
use Rattle.scr_spec.specs.Data.{Data}
use Rattle.scr_spec.specs.declared.state.Input.{Input}
use Rattle.scr_spec.specs.Meaning.{Codes}
use Rattle.scr_spec.specs.Names.{variable_named}
use Rattle.scr_spec.specs.Tables.{is_class_at}
use Rattle.scr_resolve.specs.Texts.{Spells, Refusal, IsRefused}
use Rattle.scr_depend.specs.declared.order.Order.{Order}
use Rattle.scr_depend.specs.Dependencies.{graph_of}
use Rattle.scr_depend.specs.Results.{HasCycle}
use Rattle.prove_tables.specs.declared.verdict.Verdict.{Verdict}
use Rattle.prove_tables.specs.Outcomes.{IsPassed, IsFoundOut}
use Rattle.run_step.specs.Runs.{IsInitial}
use Rattle.prove_candidates.specs.declared.candidate.Candidate.{Candidate}
use Rattle.prove_invariants.specs.declared.derived.Found.{Found}
use Rattle.prove_invariants.specs.declared.derived.Derived.{Derived}
use Rattle.prove_invariants.specs.declared.derived.Derived.TheVariants as derived
use Rattle.prove_invariants.specs.Derivations.{HasDerived}
use Rattle.run_script.specs.declared.fault.ScriptFault.{ScriptFault}
use Rattle.run_script.specs.Scripts.{Reads, Whole, Faulty}
use Rattle.base_script.specs.Faults.{script_fault}
use Rattle.cmd_report.specs.Faults.{refusal_text}
use Rattle.cmd_report.specs.Reports.{cycle_text}
use Rattle.cmd_report.specs.Runs.{state_text}
use Rattle.cmd_work.specs.declared.status.Status.{Status}
use Rattle.cmd_work.specs.declared.status.Status.TheVariants.{Done, Findings, SpecRefused, ScriptRefused, Undecided}
use Rattle.cmd_checked.specs.Reports.{verdicts_status, all_yes}
use Rattle.run_script.specs.Faults.{kind_of}
use Rattle.cmd_generate.specs.Chain.{chain_text}
use Rattle.dd_store.specs.declared.store.TheConstants.{SPLIT_LIMIT}
use Rattle.cmd_large.specs.Texts.{number_line, counts_of, checked_text}

-- ---- the run

-- the lines that are simulated
abbrev pub script : List (List ℕ)
script = codes "SET Input 60" ∷ codes "SET Input 0" ∷ codes "SET Reset TRUE" ∷ []

-- all three hold inputs, which lead from the one state to the other
pub record TakesAll (spec : Data) (first last : Codes) : Type 0 where
  pub inputs : Input × Input × Input
  pub between : Codes × Codes
  pub reads : Reads spec first 1 script (inputs.0 ∷ inputs.1 ∷ inputs.2 ∷ []) (between.0 ∷ between.1 ∷ last ∷ []) Whole

-- the line of this number is the first that is faulty
pub record FailsAt (spec : Data) (first : Codes) (line : ℕ) (fault : ScriptFault) : Type 0 where
  pub inputs : List Input
  pub states : List Codes
  pub reads : Reads spec first 1 script inputs states (Faulty line fault)

-- the state after the third input, or the first line that is faulty
pub data RunSummary (spec : Data) : List ℕ → Status → Type 0 where
  ran : (first last : Codes) → IsInitial spec first → TakesAll spec first last → RunSummary spec (number_line (codes "inputs") 3 ++ state_text spec 3 last) Done
  stopped : (first : Codes) (line : ℕ) (fault : ScriptFault) → IsInitial spec first → FailsAt spec first line fault
      → RunSummary spec (script_fault line (kind_of fault)) ScriptRefused

-- ---- invariants

-- the mode class whose invariants are derived, if there is one of that name
abbrev pub phase_of : Data → Option ℕ
phase_of spec = option_and_then (λ v. if is_class_at spec v then Some v else None) (variable_named spec (codes "Phase"))

-- what is derived for a class; for none, nothing is found
abbrev pub IsDerivedFor : Data → List ℕ → Option ℕ → Derived → Type 0
IsDerivedFor spec order None d = d ≡ derived.All []
IsDerivedFor spec order (Some class) d = HasDerived spec order class SPLIT_LIMIT d

-- how many are found, and then the run; or no line more, where the class is undecided
pub data PassedSummary (spec : Data) (order : List ℕ) : List ℕ → Status → Type 0 where
  counted : (found : List Found) (bytes : List ℕ) (status : Status) → IsDerivedFor spec order (phase_of spec) (derived.All found) → RunSummary spec bytes status
      → PassedSummary spec order (number_line (codes "invariants") (length found) ++ bytes) status
  undecided : (round : ℕ) (c : Candidate) → IsDerivedFor spec order (phase_of spec) (derived.Undecided round c) → PassedSummary spec order [] Undecided

-- ---- texts

-- of a specification: its cycle, or the numbers of its verdicts, which are the last line where one is not yes
pub data SpecSummary (stages : ℕ) (spec : Data) : List ℕ → Status → Type 0 where
  circular : (cycle : List ℕ) → HasCycle (graph_of spec) cycle → SpecSummary stages spec (cycle_text spec cycle) Findings
  found : (order : Order) (verdicts : List Verdict) → IsFoundOut spec SPLIT_LIMIT order verdicts
      → SpecSummary stages spec (checked_text stages (counts_of verdicts)) (verdicts_status verdicts)
  passed : (order : Order) (bytes : List ℕ) (status : Status) → IsPassed spec SPLIT_LIMIT order → PassedSummary spec order.list bytes status
      → SpecSummary stages spec (checked_text stages (counts_of (all_yes spec)) ++ bytes) status

-- of a text: that of the specification that it spells, or the line on what is wrong with it
pub data TextSummary (stages : ℕ) (text : List ℕ) : List ℕ → Status → Type 0 where
  spelled : (spec : Data) (bytes : List ℕ) (status : Status) → Spells text spec → SpecSummary stages spec bytes status → TextSummary stages text bytes status
  refused : (refusal : Refusal) → IsRefused text refusal → TextSummary stages text (refusal_text refusal) SpecRefused

-- of the chain whose last latch has the number n; each latch is a stage
abbrev pub LargeAnswers : ℕ → List ℕ → Status → Type 0
LargeAnswers n = TextSummary (n + 1) (chain_text n)
