-- What `cover` tells of a run.
use Rattle.std.specs.Prelude.{◌≡◌, ℕ, ◌+◌, ◌-◌, List, ◌∷◌, ◌++◌, length}
use Rattle.base.specs.Lines.{lines}
use Rattle.scr_spec.specs.Data.{Data}
use Rattle.scr_spec.specs.declared.state.Input.{Input}
use Rattle.scr_spec.specs.Meaning.{Codes}
use Rattle.run_step.specs.Runs.{IsRun}
use Rattle.run_script.specs.Through.{GoesThrough}
use Rattle.run_script.specs.Front.{IsFaulty, GoesThroughTo}
use Rattle.base_script.specs.declared.fault.ScriptKind.{ScriptKind}
use Rattle.base_script.specs.Faults.{script_fault}
use Rattle.cmd_work.specs.declared.walk.TheConstants.{SCRIPT_LIMIT}
use Rattle.cmd_work.specs.Stops.{StopsScript}
use Rattle.cmd_cover.specs.Text.{coverage_text}

-- the script goes through, and the bytes are the lines on all cells, each with the number of inputs of its run at which the cell
-- held, and the line on how many inputs there are
pub record CountsRun (spec : Data) (script bytes : List ℕ) : Type 0 where
  pub inputs : List Input
  pub first : Codes
  pub later : List Codes
  pub through : GoesThrough spec (lines script) inputs (first ∷ later)
  pub run : IsRun spec inputs (first ∷ later)
  pub many : length later ≡ length inputs
  pub told : bytes ≡ coverage_text spec first later

-- The lines in front go through, and the script stops at the first one that is left: the bytes count the run of their inputs, and
-- end with the line on the fault of that one.
pub record CountsFront (spec : Data) (script bytes : List ℕ) : Type 0 where
  pub front : List ℕ
  pub left : List ℕ
  pub inputs : List Input
  pub first : Codes
  pub later : List Codes
  pub last : Codes
  pub goes : GoesThroughTo spec script front left inputs (first ∷ later) last
  pub many : length later ≡ length inputs
  pub fault : ScriptKind
  pub stops : StopsScript (IsFaulty spec last) (SCRIPT_LIMIT - length front) left fault
  pub told : bytes ≡ coverage_text spec first later ++ script_fault (length (lines front) + 1) fault
