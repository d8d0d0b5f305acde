-- The report on a text, and how a command ends with it.
use Rattle.std.specs.Prelude.{ℕ, Bool, true, false, List, ◌++◌, map, if◌then◌else◌}
use Rattle.std.specs.List.{flat_map, list_any, zip}
use Rattle.scr_spec.specs.Data.{Data}
use Rattle.scr_spec.specs.declared.table.Table.{Table}
use Rattle.scr_resolve.specs.Texts.{Spells, Refusal, IsRefused}
use Rattle.scr_depend.specs.Dependencies.{graph_of}
use Rattle.scr_depend.specs.Orders.{IsOrder}
use Rattle.scr_depend.specs.Results.{HasCycle}
use Rattle.prove_tables.specs.declared.verdict.Verdict.{Verdict}
use Rattle.prove_tables.specs.declared.verdict.Verdict.TheVariants as verdict
use Rattle.prove_tables.specs.Verdicts.{AreVerdicts}
use Rattle.cmd_report.specs.Faults.{refusal_text}
use Rattle.cmd_report.specs.Reports.{order_text, cycle_text, verdict_text}
use Rattle.cmd_work.specs.declared.status.Status.{Status}
use Rattle.cmd_work.specs.declared.status.Status.TheVariants.{Done, Findings, Undecided, SpecRefused}

-- ---- verdicts

abbrev pub is_no : Verdict → Bool
is_no verdict.Yes = false
is_no (verdict.No goal w) = true
is_no verdict.Undecided = false

abbrev pub is_undecided : Verdict → Bool
is_undecided verdict.Yes = false
is_undecided (verdict.No goal w) = false
is_undecided verdict.Undecided = true

-- how a run with these verdicts ends: a no counts before what is undecided
abbrev pub verdicts_status : List Verdict → Status
verdicts_status verdicts = if list_any is_no verdicts then Findings else if list_any is_undecided verdicts then Undecided else Done

-- a yes on each table
abbrev pub all_yes : Data → List Verdict
all_yes spec = map (λ t. verdict.Yes) spec.tables

-- the line on a table
abbrev pub line_text : Data → Table × Verdict → List ℕ
line_text spec (table, verdict) = verdict_text spec table.variable verdict

-- a line on each table, in the order of the text
abbrev pub lines_text : Data → List Verdict → List ℕ
lines_text spec verdicts = flat_map (line_text spec) (zip spec.tables verdicts)

-- the report on a specification that passes: its order, and a yes on each table
abbrev pub passed_text : Data → List ℕ → List ℕ
passed_text spec order = order_text spec order ++ lines_text spec (all_yes spec)

-- ---- reports

-- of a specification: its order and the verdicts on its tables, or its cycle
pub data Reports : Data → ℕ → List ℕ → Status → Type 0 where
  ordered : {spec : Data} {limit : ℕ} (order : List ℕ) (verdicts : List Verdict) → IsOrder (graph_of spec) order → AreVerdicts spec order limit verdicts
      → Reports spec limit (order_text spec order ++ lines_text spec verdicts) (verdicts_status verdicts)
  circular : {spec : Data} {limit : ℕ} (cycle : List ℕ) → HasCycle (graph_of spec) cycle → Reports spec limit (cycle_text spec cycle) Findings

-- of a text: the report on the specification that it spells, or the line on what is wrong with it
pub data ChecksText : ℕ → List ℕ → List ℕ → Status → Type 0 where
  reports : {limit : ℕ} {text bytes : List ℕ} {status : Status} (spec : Data) → Spells text spec → Reports spec limit bytes status
      → ChecksText limit text bytes status
  refused : {limit : ℕ} {text : List ℕ} (refusal : Refusal) → IsRefused text refusal → ChecksText limit text (refusal_text refusal) SpecRefused
