-- What `simulate` answers to a script: the states of the run of its inputs, each with its number.
use Rattle.std.specs.Prelude.{◌≡◌, ℕ, ◌+◌, ◌-◌, List, ◌++◌, length, Option, Some, None, Ok, Err}
use Rattle.base_io.specs.declared.lines.Piece.{Piece}
use Rattle.base_io.specs.declared.lines.Piece.TheVariants.{Line}
use Rattle.base_io.specs.Line.{next_piece}
use Rattle.base.specs.Ends.{line_with_end}
use Rattle.scr_spec.specs.Data.{Data}
use Rattle.scr_spec.specs.declared.state.Input.{Input}
use Rattle.scr_spec.specs.Meaning.{Codes}
use Rattle.run_step.specs.Runs.{IsInitial, IsStep}
use Rattle.run_script.specs.declared.fault.ScriptFault.{ScriptFault}
use Rattle.run_script.specs.Faults.{kind_of}
use Rattle.run_script.specs.Script.{read_line}
use Rattle.cmd_work.specs.declared.status.Status.{Status}
use Rattle.cmd_work.specs.declared.status.Status.TheVariants.{ScriptRefused}
use Rattle.cmd_work.specs.Session.{FileAnswers, first_line, behind}
use Rattle.base_script.specs.Faults.{script_fault}
use Rattle.cmd_work.specs.Closing.{closing_text, closing_status}
use Rattle.cmd_report.specs.Runs.{state_text}
use Rattle.cmd_checked.specs.Checking.{ScriptAnswers}

-- the answer from this state on, which has this number among the states
pub data Simulates (spec : Data) : Codes → ℕ → ℕ → ℕ → List ℕ → List ℕ → Status → Type 0 where
  closed : {at : Codes} {count number room : ℕ} {rest bytes : List ℕ} {status : Status} (piece : Piece) → next_piece room rest ≡ piece → (piece ≡ Line → ⊥)
      → bytes ≡ closing_text number piece → status ≡ closing_status piece → Simulates spec at count number room rest bytes status
  faulty : {at : Codes} {count number room : ℕ} {rest bytes : List ℕ} {status : Status} (fault : ScriptFault) → next_piece room rest ≡ Line → read_line spec at (first_line rest) ≡ Err fault
      → bytes ≡ script_fault number (kind_of fault) → status ≡ ScriptRefused → Simulates spec at count number room rest bytes status
  passed : {at : Codes} {count number room : ℕ} {rest bytes : List ℕ} {status : Status} → next_piece room rest ≡ Line → read_line spec at (first_line rest) ≡ Ok None
      → Simulates spec at count (number + 1) (room - length (line_with_end rest)) (behind rest) bytes status → Simulates spec at count number room rest bytes status
  taken : {at : Codes} {count number room : ℕ} {rest bytes : List ℕ} {status : Status} (input : Input) (new : Codes) (more : List ℕ) → next_piece room rest ≡ Line
      → read_line spec at (first_line rest) ≡ Ok (Some input) → IsStep spec at input new
      → Simulates spec new (count + 1) (number + 1) (room - length (line_with_end rest)) (behind rest) more status → bytes ≡ state_text spec (count + 1) new ++ more
      → Simulates spec at count number room rest bytes status

-- ---- files

-- for a specification that passes, by its script, if it is there: the initial state, and then what answers the lines
pub record SimulatesFile (spec : Data) (script : Option (List ℕ)) (bytes : List ℕ) (status : Status) : Type 0 where
  pub first : Codes
  pub initial : IsInitial spec first
  pub answers : FileAnswers (state_text spec 0 first) (Simulates spec first 0) script bytes status

-- by the text of a specification and the script
abbrev pub SimulateAnswers : ℕ → Option (List ℕ) → Option (List ℕ) → List ℕ → Status → Type 0
SimulateAnswers = ScriptAnswers SimulatesFile
