-- What `emit` answers, and what a text of C that is right for a specification is.
use Rattle.std.specs.Prelude.{◌≡◌, ℕ, List, Option}
use Rattle.scr_spec.specs.Data.{Data}
use Rattle.scr_spec.specs.Meaning.{Codes}
use Rattle.scr_spec.specs.declared.state.Input.{Input}
use Rattle.scr_depend.specs.Dependencies.{graph_of}
use Rattle.scr_depend.specs.Orders.{IsOrder}
use Rattle.run_step.specs.Runs.{IsInitial, AreValid}
use Rattle.c_subset.specs.declared.unit.CUnit.{CUnit}
use Rattle.c_reader.specs.Text.{Reads}
use Rattle.c_writer.specs.Units.{unit_of}
use Rattle.c_writer.specs.Laws.{IsRightUnit, RunsTogether}
use Rattle.c_writer.specs.Callers.{IsRightForCallers}
use Rattle.c_print.specs.Printed.{printed}
use Rattle.cmd_work.specs.declared.status.Status.{Status}
use Rattle.cmd_work.specs.declared.status.Status.TheVariants.{Done}
use Rattle.cmd_work.specs.Ends.{ByFile}
use Rattle.cmd_checked.specs.Checking.{ChecksFirst}

-- ---- the answer

-- the text of the unit by this order, and by an initial state
pub record IsUnitText (spec : Data) (order bytes : List ℕ) : Type 0 where
  pub first : Codes
  pub initial : IsInitial spec first
  pub text : bytes ≡ printed (unit_of spec order first)

-- of a specification that passes: the text of its unit
pub record EmitsUnit (spec : Data) (bytes : List ℕ) (status : Status) : Type 0 where
  pub order : List ℕ
  pub ordered : IsOrder (graph_of spec) order
  pub unit_text : IsUnitText spec order bytes
  pub done : status ≡ Done

-- of a text
abbrev pub EmitsText : ℕ → List ℕ → List ℕ → Status → Type 0
EmitsText = ChecksFirst EmitsUnit

-- of a file, if it is there
abbrev pub Emits : ℕ → Option (List ℕ) → List ℕ → Status → Type 0
Emits limit = ByFile (EmitsText limit)

-- ---- right texts

-- The bytes are a text of a unit of C that runs as the specification: for each run of the specification the calls of its
-- inputs have a meaning, and at each moment the objects of all variables have their codes in the state of that run. Each
-- valid list of inputs has such a run. It is right for every caller, too: for one that hands in present codes, and for one
-- that asks a condition first, whatever arguments it has.
pub record IsRightText (spec : Data) (bytes : List ℕ) : Type 0 where
  pub unit : CUnit
  pub reads : Reads bytes unit
  pub right : IsRightUnit spec unit
  pub valid : (inputs : List Input) → AreValid spec inputs → RunsTogether spec unit inputs
  pub callers : IsRightForCallers spec unit
