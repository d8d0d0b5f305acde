-- What `cover` answers to a script: the coverage of the run of its inputs, up to the end of the script or its first fault.
use Rattle.std.specs.Prelude.{◌≡◌, ℕ, ◌+◌, ◌-◌, List, [], ◌∷◌, ◌++◌, length, Option, Some, None, Ok, Err}
use Rattle.base_io.specs.declared.lines.Piece.{Piece}
use Rattle.base_io.specs.declared.lines.Piece.TheVariants.{Line}
use Rattle.base_io.specs.Line.{next_piece}
use Rattle.base.specs.Ends.{line_with_end}
use Rattle.scr_spec.specs.Data.{Data}
use Rattle.scr_spec.specs.declared.state.Input.{Input}
use Rattle.scr_spec.specs.Meaning.{Codes}
use Rattle.run_step.specs.Runs.{IsInitial, IsStep}
use Rattle.run_script.specs.declared.fault.ScriptFault.{ScriptFault}
use Rattle.run_script.specs.Faults.{kind_of}
use Rattle.run_script.specs.Script.{read_line}
use Rattle.cmd_work.specs.declared.status.Status.{Status}
use Rattle.cmd_work.specs.declared.status.Status.TheVariants.{ScriptRefused}
use Rattle.cmd_work.specs.Session.{Answering, FileAnswers, first_line, behind}
use Rattle.cmd_work.specs.Closing.{closing_text, closing_status}
use Rattle.base_script.specs.Faults.{script_fault}
use Rattle.cmd_checked.specs.Checking.{ScriptAnswers}
use Rattle.run_cover.specs.declared.count.Count.{Count}
use Rattle.run_cover.specs.Tallies.{IsTally}
use Rattle.cmd_cover.specs.Text.{coverage_text}

-- the answer from here on: the run began at the first state, and these states came behind it, the present one last
pub data Covers (spec : Data) (first : Codes) : List Codes → Codes → ℕ → ℕ → List ℕ → List ℕ → Status → Type 0 where
  closed : {states : List Codes} {at : Codes} {number room : ℕ} {rest bytes : List ℕ} {status : Status} (piece : Piece) → next_piece room rest ≡ piece → (piece ≡ Line → ⊥)
      → bytes ≡ coverage_text spec first states ++ closing_text number piece → status ≡ closing_status piece → Covers spec first states at number room rest bytes status
  faulty : {states : List Codes} {at : Codes} {number room : ℕ} {rest bytes : List ℕ} {status : Status} (fault : ScriptFault) → next_piece room rest ≡ Line
      → read_line spec at (first_line rest) ≡ Err fault → bytes ≡ coverage_text spec first states ++ script_fault number (kind_of fault) → status ≡ ScriptRefused
      → Covers spec first states at number room rest bytes status
  passed : {states : List Codes} {at : Codes} {number room : ℕ} {rest bytes : List ℕ} {status : Status} → next_piece room rest ≡ Line → read_line spec at (first_line rest) ≡ Ok None
      → Covers spec first states at (number + 1) (room - length (line_with_end rest)) (behind rest) bytes status → Covers spec first states at number room rest bytes status
  taken : {states : List Codes} {at : Codes} {number room : ℕ} {rest bytes : List ℕ} {status : Status} (input : Input) (new : Codes) → next_piece room rest ≡ Line
      → read_line spec at (first_line rest) ≡ Ok (Some input) → IsStep spec at input new
      → Covers spec first (states ++ new ∷ []) new (number + 1) (room - length (line_with_end rest)) (behind rest) bytes status → Covers spec first states at number room rest bytes status

-- the answer of a tally, whatever run it counts
abbrev pub CoversTally : Data → List Count → Codes → ℕ → Answering
CoversTally spec counts at notes number room rest bytes status =
    (first : Codes) (states : List Codes) → IsTally spec first states counts at notes → Covers spec first states at number room rest bytes status

-- ---- files

-- for a specification that passes, by its script, if it is there
pub record CoversFile (spec : Data) (script : Option (List ℕ)) (bytes : List ℕ) (status : Status) : Type 0 where
  pub first : Codes
  pub initial : IsInitial spec first
  pub answers : FileAnswers [] (Covers spec first [] first) script bytes status

-- by the text of a specification and the script
abbrev pub CoverAnswers : ℕ → Option (List ℕ) → Option (List ℕ) → List ℕ → Status → Type 0
CoverAnswers = ScriptAnswers CoversFile
