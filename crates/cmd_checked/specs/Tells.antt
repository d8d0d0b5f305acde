-- What a report says of the tables of its specification.
use Rattle.std.specs.Prelude.{◌≡◌, ℕ, List, ◌++◌, ◌⊎◌}
use Rattle.scr_spec.specs.Data.{Data}
use Rattle.scr_depend.specs.Dependencies.{graph_of}
use Rattle.scr_depend.specs.Orders.{IsOrder}
use Rattle.scr_depend.specs.Results.{HasCycle}
use Rattle.prove_tables.specs.declared.verdict.Verdict.{Verdict}
use Rattle.prove_tables.specs.Laws.{AreRightVerdicts}
use Rattle.cmd_report.specs.Reports.{order_text, cycle_text}
use Rattle.cmd_work.specs.declared.status.Status.{Status}
use Rattle.cmd_work.specs.declared.status.Status.TheVariants.{Findings}
use Rattle.cmd_checked.specs.Reports.{lines_text, verdicts_status}

-- the bytes are the order and a line on each table, and each line is right
pub record TellsTables (spec : Data) (bytes : List ℕ) (status : Status) : Type 0 where
  pub order : List ℕ
  pub ordered : IsOrder (graph_of spec) order
  pub verdicts : List Verdict
  pub text : bytes ≡ order_text spec order ++ lines_text spec verdicts
  pub ending : status ≡ verdicts_status verdicts
  pub right : AreRightVerdicts spec order spec.tables verdicts

-- the bytes are the cycle in which variables read each other
pub record TellsCycle (spec : Data) (bytes : List ℕ) (status : Status) : Type 0 where
  pub cycle : List ℕ
  pub circular : HasCycle (graph_of spec) cycle
  pub text : bytes ≡ cycle_text spec cycle
  pub ending : status ≡ Findings

abbrev pub TellsRight : Data → List ℕ → Status → Type 0
TellsRight spec bytes status = TellsTables spec bytes status ⊎ TellsCycle spec bytes status
