-- What `replay` answers to a script: the present state after each input and each step back, with the number of the inputs
-- that are held.
use Rattle.std.specs.Prelude.{◌≡◌, ℕ, ◌+◌, ◌-◌, min, List, [], ◌∷◌, ◌++◌, length, Option}
use Rattle.base_io.specs.declared.lines.Piece.{Piece}
use Rattle.base_io.specs.declared.lines.Piece.TheVariants.{Line}
use Rattle.base_io.specs.Line.{next_piece}
use Rattle.base.specs.Ends.{line_with_end}
use Rattle.scr_spec.specs.Data.{Data}
use Rattle.scr_spec.specs.declared.state.Input.{Input}
use Rattle.scr_spec.specs.Meaning.{Codes}
use Rattle.run_step.specs.Runs.{IsInitial, IsStep, EndsIn}
use Rattle.cmd_work.specs.declared.status.Status.{Status}
use Rattle.cmd_work.specs.declared.status.Status.TheVariants.{ScriptRefused}
use Rattle.cmd_work.specs.Session.{Answering, FileAnswers, first_line, behind}
use Rattle.cmd_work.specs.Closing.{closing_text, closing_status}
use Rattle.base_script.specs.declared.fault.ScriptKind.{ScriptKind}
use Rattle.base_script.specs.Faults.{script_fault}
use Rattle.cmd_report.specs.Runs.{state_text}
use Rattle.cmd_checked.specs.Checking.{ScriptAnswers}
use Rattle.run_back.specs.Kept.{Kept, Shows}
use Rattle.cmd_replay.specs.Turns.{turn_of, stay, add, take, refuse}

-- the answer from here on: these inputs are held, with this depth, and their run ends in this state
pub data Replays (spec : Data) : List Input → ℕ → Codes → ℕ → ℕ → List ℕ → List ℕ → Status → Type 0 where
  closed : {inputs : List Input} {depth : ℕ} {at : Codes} {number room : ℕ} {rest bytes : List ℕ} {status : Status} (piece : Piece) → next_piece room rest ≡ piece → (piece ≡ Line → ⊥)
      → bytes ≡ closing_text number piece → status ≡ closing_status piece → Replays spec inputs depth at number room rest bytes status
  faulty : {inputs : List Input} {depth : ℕ} {at : Codes} {number room : ℕ} {rest bytes : List ℕ} {status : Status} (kind : ScriptKind) → next_piece room rest ≡ Line
      → turn_of spec at depth (first_line rest) ≡ refuse kind → bytes ≡ script_fault number kind → status ≡ ScriptRefused → Replays spec inputs depth at number room rest bytes status
  passed : {inputs : List Input} {depth : ℕ} {at : Codes} {number room : ℕ} {rest bytes : List ℕ} {status : Status} → next_piece room rest ≡ Line
      → turn_of spec at depth (first_line rest) ≡ stay
      → Replays spec inputs depth at (number + 1) (room - length (line_with_end rest)) (behind rest) bytes status → Replays spec inputs depth at number room rest bytes status
  -- the input is held; the depth grows up to 256
  added : {inputs : List Input} {depth : ℕ} {at : Codes} {number room : ℕ} {rest bytes : List ℕ} {status : Status} (input : Input) (new : Codes) (more : List ℕ) → next_piece room rest ≡ Line
      → turn_of spec at depth (first_line rest) ≡ add input → IsStep spec at input new
      → Replays spec (inputs ++ input ∷ []) (min 256 (depth + 1)) new (number + 1) (room - length (line_with_end rest)) (behind rest) more status
      → bytes ≡ state_text spec (length (inputs ++ input ∷ [])) new ++ more → Replays spec inputs depth at number room rest bytes status
  -- the last inputs are held no longer, and the depth falls by their number
  taken : {inputs : List Input} {depth : ℕ} {at : Codes} {number room : ℕ} {rest bytes : List ℕ} {status : Status} (front last : List Input) (new : Codes) (more : List ℕ) → next_piece room rest ≡ Line
      → turn_of spec at depth (first_line rest) ≡ take (length last) → inputs ≡ front ++ last → EndsIn spec front new
      → Replays spec front (depth - length last) new (number + 1) (room - length (line_with_end rest)) (behind rest) more status
      → bytes ≡ state_text spec (length front) new ++ more → Replays spec inputs depth at number room rest bytes status

-- the answer where this is kept, whatever inputs led there
abbrev pub ReplaysKept : Data → Kept → Answering
ReplaysKept spec k number room rest bytes status = (inputs : List Input) → Shows spec inputs k → Replays spec inputs (length k.earlier) k.at number room rest bytes status

-- ---- files

-- for a specification that passes, by its script, if it is there: the initial state, and then what answers the lines
pub record ReplaysFile (spec : Data) (script : Option (List ℕ)) (bytes : List ℕ) (status : Status) : Type 0 where
  pub first : Codes
  pub initial : IsInitial spec first
  pub answers : FileAnswers (state_text spec 0 first) (Replays spec [] 0 first) script bytes status

-- by the text of a specification and the script
abbrev pub ReplayAnswers : ℕ → Option (List ℕ) → Option (List ℕ) → List ℕ → Status → Type 0
ReplayAnswers = ScriptAnswers ReplaysFile
