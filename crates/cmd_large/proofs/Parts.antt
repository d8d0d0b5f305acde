-- The parts of a summary.
use Rattle.std.proofs.Common.{◌≡◌, ℕ, List, ◌++◌, length, Result, Ok, Err, Vec, Global, sym, subst, IsTrue}
use Rattle.std.specs.Prelude.{IfOk, codes}
use Rattle.base.specs.declared.memory.NoMemory.{NoMemory}
use Rattle.scr_spec.specs.Data.{Data}
use Rattle.scr_spec.specs.Shown.{data_of}
use Rattle.scr_spec.specs.declared.spec.Spec.{Spec}
use Rattle.scr_spec.specs.Meaning.{Codes}
use Rattle.scr_resolve.specs.Texts.{Spells}
use Rattle.scr_depend.specs.declared.order.Order.{Order}
use Rattle.prove_tables.specs.declared.verdict.Verdict.{Verdict}
use Rattle.prove_tables.specs.declared.outcome.Outcome.TheVariants.{Found as FoundOut}
use Rattle.prove_tables.specs.Outcomes.{IsPassed, IsFoundOut, IsOutcome}
use Rattle.run_step.specs.Runs.{IsInitial}
use Rattle.prove_invariants.specs.declared.derived.Found.{Found}
use Rattle.prove_invariants.specs.declared.derived.Derived.TheVariants as derived
use Rattle.base_script.specs.Faults.{script_fault}
use Rattle.cmd_report.specs.Runs.{state_text}
use Rattle.cmd_work.specs.declared.status.Status.{Status}
use Rattle.cmd_work.specs.declared.status.Status.TheVariants.{Done, SpecRefused, ScriptRefused}
use Rattle.cmd_work.specs.Ends.{is_own}
use Rattle.cmd_checked.specs.Reports.{all_yes}
use Rattle.cmd_checked.specs.Spelling.{IsRefusedWith}
use Rattle.run_script.specs.Faults.{kind_of}
use Rattle.cmd_large.specs.declared.run.FaultyLine.{FaultyLine}
use Rattle.dd_store.specs.declared.store.TheConstants.{SPLIT_LIMIT}
use Rattle.cmd_large.specs.Texts.{number_line, counts_of, checked_text}
use Rattle.cmd_large.specs.Summaries.{TakesAll, FailsAt, RunSummary, ran, stopped, phase_of, IsDerivedFor, PassedSummary, counted, SpecSummary, passed, TextSummary, spelled, refused}
use Rattle.cmd_large.proofs.Once.{text_own}

-- ---- the run

pub run_stops : (spec other : Data) (first : Codes) (f : FaultyLine) (out : List ℕ) → other ≡ spec → IsInitial spec first → FailsAt other first f.number f.fault
    → out ≡ script_fault f.number (kind_of f.fault) → RunSummary spec out ScriptRefused
run_stops spec other first f out same initial fails text =
    rw text (stopped first f.number f.fault initial (subst (λ s. FailsAt s first f.number f.fault) same fails))

pub run_ends : (spec other : Data) (first last : Codes) (out : List ℕ) → other ≡ spec → IsInitial spec first → TakesAll other first last
    → out ≡ number_line (codes "inputs") 3 ++ state_text spec 3 last → RunSummary spec out Done
run_ends spec other first last out same initial takes text = rw text (ran first last initial (subst (λ s. TakesAll s first last) same takes))

-- ---- what is behind the line on tables

pub counted_with : (spec : Data) (order : List ℕ) (found : List Found) (out more : List ℕ) (status : Status) → IsDerivedFor spec order (phase_of spec) (derived.All found)
    → out ≡ number_line (codes "invariants") (length found) ++ more → RunSummary spec more status → PassedSummary spec order out status
counted_with spec order found out more status is text run = rw text (counted found more status is run)

-- ---- specifications and texts

pub passed_with : (stages : ℕ) (spec : Data) (order : Order) (out more : List ℕ) (status : Status) → IsPassed spec SPLIT_LIMIT order
    → out ≡ checked_text stages (counts_of (all_yes spec)) ++ more → PassedSummary spec order.list more status → SpecSummary stages spec out status
passed_with stages spec order out more status passes text mine = rw text (passed order more status passes mine)

pub refused_with : (stages : ℕ) (text line : List ℕ) → IsRefusedWith text line → TextSummary stages text line SpecRefused
refused_with stages text line r = rw r.line_is (refused r.refusal r.refused)

-- ---- results

abbrev Answer : Type 0
Answer = Result (Vec ℕ Global × Status) NoMemory

pub found_with : (stages : ℕ) (spec kept : Spec) (order : Order) (verdicts list : List Verdict) (r : Answer) → IsOutcome spec SPLIT_LIMIT (FoundOut kept order verdicts) → list ≡ verdicts
    → IfOk r (λ a. (s : Data) (o : Order) → IsFoundOut s SPLIT_LIMIT o list → SpecSummary stages s a.0.items a.1) → IfOk r (λ a. SpecSummary stages (data_of spec) a.0.items a.1)
found_with stages spec kept order verdicts list (Ok a) is same mine = mine (data_of spec) order (subst (IsFoundOut (data_of spec) SPLIT_LIMIT order) (sym same) is.1)
found_with stages spec kept order verdicts list (Err e) is same mine = tt

pub spelled_with : (stages : ℕ) (text : List ℕ) (spec : Data) (r : Answer) → Spells text spec → IfOk r (λ a. SpecSummary stages spec a.0.items a.1)
    → IfOk r (λ a. TextSummary stages text a.0.items a.1)
spelled_with stages text spec (Ok a) is mine = spelled spec a.0.items a.1 is mine
spelled_with stages text spec (Err e) is mine = tt

pub own_of : (stages : ℕ) (text : List ℕ) (r : Answer) → IfOk r (λ a. TextSummary stages text a.0.items a.1) → IfOk r (λ a. IsTrue (is_own a.1))
own_of stages text (Ok a) mine = text_own stages text a.0.items a.1 mine
own_of stages text (Err e) mine = tt
