-- What was found out about a text, as its checking.
use Rattle.std.proofs.Common.{◌≡◌, ℕ, ◌<◌, inl, List, ◌++◌, length, Some, Result, Ok, Err, refl, sym, subst}
use Rattle.std.specs.Prelude.{IfOk}
use Rattle.base.specs.declared.memory.NoMemory.{NoMemory}
use Rattle.scr_parse.specs.declared.place.TextKind.TheVariants as kind
use Rattle.scr_parse.specs.declared.text.TheConstants.{TEXT_LIMIT}
use Rattle.scr_spec.specs.Data.{Data}
use Rattle.scr_depend.specs.declared.order.Order.{Order}
use Rattle.scr_depend.specs.Dependencies.{graph_of}
use Rattle.scr_depend.specs.Results.{HasCycle}
use Rattle.prove_tables.specs.declared.verdict.Verdict.{Verdict}
use Rattle.prove_tables.specs.Outcomes.{IsPassed, IsFoundOut}
use Rattle.scr_resolve.specs.Texts.{Spells, IsRefused, unread}
use Rattle.cmd_report.specs.Reports.{order_text, cycle_text}
use Rattle.cmd_work.specs.declared.status.Status.{Status}
use Rattle.cmd_work.specs.declared.status.Status.TheVariants.{Findings, SpecRefused}
use Rattle.cmd_work.specs.declared.whole.Loaded.{Loaded}
use Rattle.cmd_work.specs.declared.whole.Loaded.TheVariants.{TooLong}
use Rattle.cmd_work.specs.Load.{IsLoaded}
use Rattle.cmd_checked.specs.declared.checking.Checking.{Checking}
use Rattle.cmd_checked.specs.declared.checking.Checking.TheVariants.{Passed, Finished}
use Rattle.cmd_checked.specs.Reports.{verdicts_status, lines_text, Reports, ordered, circular, ChecksText, reports, refused}
use Rattle.cmd_checked.specs.Spelling.{IsRefusedWith}
use Rattle.cmd_checked.specs.Checking.{EndsCommand, IsSpecChecking, IsChecking}

-- verdicts of which one is not yes
pub found_checking : (spec : Data) (order : Order) (verdicts : List Verdict) (out : List ℕ) (status : Status) → out ≡ order_text spec order.list ++ lines_text spec verdicts
    → status ≡ verdicts_status verdicts → (limit : ℕ) → IsFoundOut spec limit order verdicts → Reports spec limit out status
found_checking spec order verdicts out status text ends limit found = rw (text, ends) (ordered order.list verdicts found.ordered.ordered found.verdicts_are)

-- a cycle
pub circular_checking : (spec : Data) (cycle out : List ℕ) → out ≡ cycle_text spec cycle → HasCycle (graph_of spec) cycle → (limit : ℕ) → Reports spec limit out Findings
circular_checking spec cycle out text has limit = rw text (circular {spec = spec} {limit = limit} cycle has)

-- a text that is refused
pub refused_with : (text out : List ℕ) (limit : ℕ) → IsRefusedWith text out → ChecksText limit text out SpecRefused
refused_with text out limit r = rw r.line_is (refused {limit = limit} {text = text} r.refusal r.refused)

pub findings_end : EndsCommand Findings
findings_end = record { other = λ h. cc; own = refl }

pub refusal_ends : EndsCommand SpecRefused
refusal_ends = record { other = λ h. cc; own = refl }

-- a text above the limit is refused as a whole
pub too_long_refused : (text : List ℕ) → IsLoaded TEXT_LIMIT (Some text) TooLong → IsRefused text (unread 0 kind.Limit)
too_long_refused text (other, same, long) = inl (subst (λ t. TEXT_LIMIT < length t) (some_injective text other same) long, refl, refl)
  where
    some_injective : (a b : List ℕ) → Some a ≡ Some b → b ≡ a
    some_injective a b same = cc

-- from the specification that a text spells to the text
spelled_checking : (limit : ℕ) (text : List ℕ) (spec : Data) (c : Checking) → Spells text spec → IsSpecChecking limit spec c → IsChecking limit text c
spelled_checking limit text spec (Passed checked) spelled (same, passed) =
    record { spells = subst (Spells text) (sym same) spelled; passed = subst (λ s. IsPassed s limit checked.order) (sym same) passed }
spelled_checking limit text spec (Finished report status) spelled report_is = reports spec spelled report_is

pub spelled_outcome : (r : Result Checking NoMemory) (limit : ℕ) (text : List ℕ) (spec : Data) → Spells text spec → IfOk r (IsSpecChecking limit spec) → IfOk r (IsChecking limit text)
spelled_outcome (Ok c) limit text spec spelled h = spelled_checking limit text spec c spelled h
spelled_outcome (Err e) limit text spec spelled h = tt

-- what is so of each text of a file, of what was found out about the file
pub file_outcome : (r : Result Checking NoMemory) (limit : ℕ) (file : Loaded) → ((text : List ℕ) → IsLoaded TEXT_LIMIT (Some text) file → IfOk r (IsChecking limit text))
    → IfOk r (λ c. (text : List ℕ) → IsLoaded TEXT_LIMIT (Some text) file → IsChecking limit text c)
file_outcome (Ok c) limit file h = h
file_outcome (Err e) limit file h = tt
