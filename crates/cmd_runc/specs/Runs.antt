-- What `runc` answers: the objects of a unit before the first call and after each.
use Rattle.std.specs.Prelude.{◌≡◌, ℕ, ℤ, ◌+◌, ◌-◌, ◌<◌, ◌≤◌, List, ◌++◌, length, Option, Some, None, Ok, Err}
use Rattle.base_io.specs.declared.lines.Piece.{Piece}
use Rattle.base_io.specs.declared.lines.Piece.TheVariants.{Line}
use Rattle.base_io.specs.Line.{next_piece}
use Rattle.base.specs.Ends.{line_with_end}
use Rattle.c_subset.specs.declared.unit.CUnit.{CUnit}
use Rattle.c_subset.specs.Meaning.{Objects}
use Rattle.c_subset.specs.Runs.{initial_objects, call_effect}
use Rattle.c_reader.specs.Text.{Reads, Refuses}
use Rattle.base_script.specs.declared.fault.ScriptKind.{ScriptKind}
use Rattle.base_script.specs.Faults.{script_fault}
use Rattle.cmd_work.specs.declared.status.Status.{Status}
use Rattle.cmd_work.specs.declared.status.Status.TheVariants.{Findings, ScriptRefused, CodeRefused}
use Rattle.cmd_work.specs.Ends.{ByFile}
use Rattle.cmd_work.specs.Closing.{closing_text, closing_status}
use Rattle.cmd_work.specs.Session.{FileAnswers, first_line, behind}
use Rattle.cmd_runc.specs.declared.command.TheConstants.{C_LIMIT}
use Rattle.cmd_runc.specs.Lines.{read_line}
use Rattle.cmd_runc.specs.Texts.{objects_text, overflow_text, refused_text}

-- the answer from this row of objects on, behind so many calls
pub data RunsCalls (unit : CUnit) : Objects → ℕ → ℕ → ℕ → List ℕ → List ℕ → Status → Type 0 where
  closed : {row : Objects} {count number room : ℕ} {rest bytes : List ℕ} {status : Status} (piece : Piece) → next_piece room rest ≡ piece → (piece ≡ Line → ⊥)
      → bytes ≡ closing_text number piece → status ≡ closing_status piece → RunsCalls unit row count number room rest bytes status
  faulty : {row : Objects} {count number room : ℕ} {rest bytes : List ℕ} {status : Status} (fault : ScriptKind) → next_piece room rest ≡ Line → read_line unit (first_line rest) ≡ Err fault
      → bytes ≡ script_fault number fault → status ≡ ScriptRefused → RunsCalls unit row count number room rest bytes status
  passed : {row : Objects} {count number room : ℕ} {rest bytes : List ℕ} {status : Status} → next_piece room rest ≡ Line → read_line unit (first_line rest) ≡ Ok None
      → RunsCalls unit row count (number + 1) (room - length (line_with_end rest)) (behind rest) bytes status → RunsCalls unit row count number room rest bytes status
  taken : {row : Objects} {count number room : ℕ} {rest bytes : List ℕ} {status : Status} (call : List ℕ × ℤ) (new : Objects) (more : List ℕ) → next_piece room rest ≡ Line
      → read_line unit (first_line rest) ≡ Ok (Some call) → call_effect unit (call.0) (call.1) row ≡ Some new
      → RunsCalls unit new (count + 1) (number + 1) (room - length (line_with_end rest)) (behind rest) more status → bytes ≡ objects_text unit (count + 1) new ++ more
      → RunsCalls unit row count number room rest bytes status
  overflow : {row : Objects} {count number room : ℕ} {rest bytes : List ℕ} {status : Status} (call : List ℕ × ℤ) → next_piece room rest ≡ Line
      → read_line unit (first_line rest) ≡ Ok (Some call) → call_effect unit (call.0) (call.1) row ≡ None
      → bytes ≡ overflow_text (count + 1) → status ≡ Findings → RunsCalls unit row count number room rest bytes status

-- ---- files

-- for a unit, by the file of calls, if it is there
abbrev pub RunsFile : CUnit → Option (List ℕ) → List ℕ → Status → Type 0
RunsFile unit calls = FileAnswers (objects_text unit 0 (initial_objects unit)) (RunsCalls unit (initial_objects unit) 0) calls

-- by the text of the unit and the file of calls: a text above the limit is refused at line 0
pub data RunsText (calls : Option (List ℕ)) (text bytes : List ℕ) (status : Status) : Type 0 where
  too_long : C_LIMIT < length text → bytes ≡ refused_text 0 → status ≡ CodeRefused → RunsText calls text bytes status
  refused : (line : ℕ) → length text ≤ C_LIMIT → Refuses text line → bytes ≡ refused_text line → status ≡ CodeRefused → RunsText calls text bytes status
  read : (unit : CUnit) → length text ≤ C_LIMIT → Reads text unit → RunsFile unit calls bytes status → RunsText calls text bytes status

abbrev pub RunCAnswers : Option (List ℕ) → Option (List ℕ) → List ℕ → Status → Type 0
RunCAnswers held calls = ByFile (RunsText calls) held

-- the calls are reached where the text is a unit
abbrev pub ReachesCalls : Option (List ℕ) → Type 0
ReachesCalls None = ⊥
ReachesCalls (Some text) = (unit : CUnit) × (length text ≤ C_LIMIT) × Reads text unit

-- ---- between two lines

-- there were fewer calls than lines, and the machine runs the unit
pub record StandsBefore (unit : CUnit) (machine : CUnit) (count number : ℕ) : Type 0 where
  pub fewer : count < number
  pub same : unit ≡ machine
