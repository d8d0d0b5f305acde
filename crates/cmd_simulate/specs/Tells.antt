-- What `simulate` tells of a run.
use Rattle.std.specs.Prelude.{◌≡◌, ℕ, ◌+◌, ◌-◌, List, ◌++◌, length}
use Rattle.std.specs.List.{flat_map, enumerate_from}
use Rattle.base.specs.Lines.{lines}
use Rattle.scr_spec.specs.Data.{Data}
use Rattle.scr_spec.specs.declared.state.Input.{Input}
use Rattle.scr_spec.specs.Meaning.{Codes}
use Rattle.run_step.specs.Runs.{IsRun}
use Rattle.run_script.specs.Through.{GoesThrough}
use Rattle.run_script.specs.Front.{IsFaulty, GoesThroughTo}
use Rattle.base_script.specs.declared.fault.ScriptKind.{ScriptKind}
use Rattle.base_script.specs.Faults.{script_fault}
use Rattle.cmd_work.specs.declared.walk.TheConstants.{SCRIPT_LIMIT}
use Rattle.cmd_work.specs.Stops.{StopsScript}
use Rattle.cmd_report.specs.Runs.{state_text}

abbrev pub numbered_text : Data → ℕ × Codes → List ℕ
numbered_text spec (number, at) = state_text spec number at

-- the lines on these states, which are numbered from here on
abbrev pub states_text : Data → ℕ → List Codes → List ℕ
states_text spec number states = flat_map (numbered_text spec) (enumerate_from number states)

-- the script goes through, and the bytes are the lines on all states of the run of its inputs, numbered from 0
pub record TellsRun (spec : Data) (script bytes : List ℕ) : Type 0 where
  pub inputs : List Input
  pub states : List Codes
  pub through : GoesThrough spec (lines script) inputs states
  pub run : IsRun spec inputs states
  pub told : bytes ≡ states_text spec 0 states

-- The lines in front go through, and the script stops at the first one that is left: the bytes are the lines on all states of the
-- run of their inputs, numbered from 0, and the line on the fault of that one.
pub record TellsFront (spec : Data) (script bytes : List ℕ) : Type 0 where
  pub front : List ℕ
  pub left : List ℕ
  pub inputs : List Input
  pub states : List Codes
  pub last : Codes
  pub goes : GoesThroughTo spec script front left inputs states last
  pub fault : ScriptKind
  pub stops : StopsScript (IsFaulty spec last) (SCRIPT_LIMIT - length front) left fault
  pub told : bytes ≡ states_text spec 0 states ++ script_fault (length (lines front) + 1) fault
