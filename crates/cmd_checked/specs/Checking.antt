-- What checking a text first gives a command.
use Rattle.std.specs.Prelude.{◌≡◌, ◌≢◌, ℕ, ⊤, List, Option, Some, None, IsTrue}
use Rattle.scr_spec.specs.Data.{Data}
use Rattle.scr_spec.specs.Shown.{data_of}
use Rattle.scr_resolve.specs.Texts.{Spells}
use Rattle.scr_depend.specs.declared.checked.Checked.{Checked}
use Rattle.scr_depend.specs.declared.order.Order.{Order}
use Rattle.prove_tables.specs.Outcomes.{IsPassed}
use Rattle.cmd_work.specs.declared.two_files.First.{First}
use Rattle.cmd_work.specs.declared.two_files.First.TheVariants.{Answer, Base}
use Rattle.cmd_work.specs.declared.status.Status.{Status}
use Rattle.cmd_work.specs.declared.status.Status.TheVariants.{Done}
use Rattle.cmd_work.specs.Ends.{ByFile, is_own}
use Rattle.cmd_checked.specs.declared.checking.Checking.{Checking}
use Rattle.cmd_checked.specs.declared.checking.Checking.TheVariants.{Passed, Finished}
use Rattle.cmd_checked.specs.Reports.{Reports, ChecksText}

-- the text spells a specification that has an order, and the verdict yes on each table
pub record Passes (limit : ℕ) (text : List ℕ) (spec : Data) (order : Order) : Type 0 where
  pub spells : Spells text spec
  pub passed : IsPassed spec limit order

-- a command ends with this status
pub record EndsCommand (status : Status) : Type 0 where
  pub other : status ≢ Done
  pub own : IsTrue (is_own status)

-- a report comes only with a status that ends the command
abbrev pub IsFinal : Checking → Type 0
IsFinal (Passed checked) = ⊤
IsFinal (Finished report status) = EndsCommand status

-- by the specification
abbrev pub IsSpecChecking : ℕ → Data → Checking → Type 0
IsSpecChecking limit spec (Passed checked) = (data_of checked.spec ≡ spec) × IsPassed spec limit checked.order
IsSpecChecking limit spec (Finished report status) = Reports spec limit report.items status

-- by the text: a specification that passes, or the report
abbrev pub IsChecking : ℕ → List ℕ → Checking → Type 0
IsChecking limit text (Passed checked) = Passes limit text (data_of checked.spec) checked.order
IsChecking limit text (Finished report status) = ChecksText limit text report.items status

-- what a command writes that checks first: the report of `check` where that ends with another status than `Done`, and
-- else what it has of its own for the specification
pub data ChecksFirst (own : Data → List ℕ → Status → Type 0) (limit : ℕ) (text : List ℕ) : List ℕ → Status → Type 0 where
  finished : {bytes : List ℕ} {status : Status} → ChecksText limit text bytes status → status ≢ Done → ChecksFirst own limit text bytes status
  passed : {bytes : List ℕ} {status : Status} (spec : Data) (order : Order) → Passes limit text spec order → own spec bytes status → ChecksFirst own limit text bytes status

-- ---- with a second file

-- what a command that checks first answers for its files: for a specification that passes, what it has of its own for the second one
abbrev pub ScriptAnswers : (Data → Option (List ℕ) → List ℕ → Status → Type 0) → ℕ → Option (List ℕ) → Option (List ℕ) → List ℕ → Status → Type 0
ScriptAnswers own limit held script = ByFile (ChecksFirst (λ spec. own spec script) limit) held

-- what checking the first file makes of the command
abbrev pub first_of : Checking → First Checked
first_of (Passed checked) = Base checked
first_of (Finished report status) = Answer report status

-- the second file is reached where the text passes
abbrev pub ReachesScript : ℕ → Option (List ℕ) → Type 0
ReachesScript limit None = ⊥
ReachesScript limit (Some text) = (spec : Data) × (order : Order) × Passes limit text spec order
