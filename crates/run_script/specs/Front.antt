-- A script whose lines go through up to a place.
use Rattle.std.specs.Prelude.{◌≡◌, ℕ, List, ◌++◌, Some, None, Err}
use Rattle.std.specs.List.{last_or}
use Rattle.base.specs.Lines.{lines}
use Rattle.scr_spec.specs.Data.{Data}
use Rattle.scr_spec.specs.declared.state.Input.{Input}
use Rattle.scr_spec.specs.Meaning.{Codes}
use Rattle.run_step.specs.Runs.{IsRun}
use Rattle.base_script.specs.declared.fault.ScriptKind.{ScriptKind}
use Rattle.run_script.specs.declared.fault.ScriptFault.{ScriptFault}
use Rattle.run_script.specs.Faults.{kind_of}
use Rattle.run_script.specs.Script.{read_line}
use Rattle.run_script.specs.Through.{GoesThrough}

-- the line has a fault of this kind in the state
pub record IsFaulty (spec : Data) (at : Codes) (line : List ℕ) (kind : ScriptKind) : Type 0 where
  pub fault : ScriptFault
  pub read : read_line spec at line ≡ Err fault
  pub told : kind ≡ kind_of fault

-- The lines in front go through: these are their inputs, and the states of the run of these, which ends in this state. The other
-- lines are left, and none is cut in two.
pub record GoesThroughTo (spec : Data) (script front left : List ℕ) (inputs : List Input) (states : List Codes) (at : Codes) : Type 0 where
  pub whole : script ≡ front ++ left
  pub uncut : lines script ≡ lines front ++ lines left
  pub through : GoesThrough spec (lines front) inputs states
  pub run : IsRun spec inputs states
  pub ends : last_or None states ≡ Some at
