-- What `runc` tells of calls.
use Rattle.std.specs.Prelude.{◌≡◌, ◌≤◌, ℕ, ℤ, ◌+◌, ◌-◌, List, [], ◌∷◌, ◌++◌, length, Some, None, Ok, Err}
use Rattle.std.specs.List.{flat_map, enumerate_from}
use Rattle.base_io.specs.declared.lines.Piece.TheVariants.{Line}
use Rattle.base_io.specs.Line.{next_piece}
use Rattle.base.specs.Lines.{lines}
use Rattle.c_subset.specs.declared.unit.CUnit.{CUnit}
use Rattle.c_subset.specs.Meaning.{Objects}
use Rattle.c_subset.specs.Runs.{initial_objects, call_effect}
use Rattle.c_reader.specs.Text.{Reads}
use Rattle.base_script.specs.declared.fault.ScriptKind.{ScriptKind}
use Rattle.base_script.specs.Faults.{script_fault}
use Rattle.cmd_work.specs.declared.walk.TheConstants.{SCRIPT_LIMIT}
use Rattle.cmd_work.specs.Session.{first_line}
use Rattle.cmd_work.specs.Stops.{StopsScript, StopsNowhere}
use Rattle.cmd_runc.specs.declared.command.TheConstants.{C_LIMIT}
use Rattle.cmd_runc.specs.Lines.{read_line}
use Rattle.cmd_runc.specs.Texts.{objects_text, overflow_text}

-- ---- the calls

-- from this row of objects on each line makes a call that has a meaning, or none where it is blank or a comment: these are the rows
-- behind the calls, and the row at the end
pub data MakesCalls (unit : CUnit) : Objects → List (List ℕ) → List Objects → Objects → Type 0 where
  none : {row : Objects} → MakesCalls unit row [] [] row
  passed : {row last : Objects} {line : List ℕ} {later : List (List ℕ)} {rows : List Objects} → read_line unit line ≡ Ok None → MakesCalls unit row later rows last
      → MakesCalls unit row (line ∷ later) rows last
  made : {row new last : Objects} {line : List ℕ} {later : List (List ℕ)} {rows : List Objects} (call : List ℕ × ℤ) → read_line unit line ≡ Ok (Some call)
      → call_effect unit (call.0) (call.1) row ≡ Some new → MakesCalls unit new later rows last → MakesCalls unit row (line ∷ later) (new ∷ rows) last

-- The lines in front make these calls. The others are left, and none is cut in two.
pub record MakesCallsTo (unit : CUnit) (calls front left : List ℕ) (rows : List Objects) (last : Objects) : Type 0 where
  pub whole : calls ≡ front ++ left
  pub uncut : lines calls ≡ lines front ++ lines left
  pub made : MakesCalls unit (initial_objects unit) (lines front) rows last

-- the line has a fault of this kind
abbrev pub IsFaulty : CUnit → List ℕ → ScriptKind → Type 0
IsFaulty unit line kind = read_line unit line ≡ Err kind

-- the first line of what is left, of which so many bytes count yet, makes a call that has no meaning from this row on
pub record Overflows (unit : CUnit) (row : Objects) (room : ℕ) (left : List ℕ) : Type 0 where
  pub next : next_piece room left ≡ Line
  pub call : List ℕ × ℤ
  pub read : read_line unit (first_line left) ≡ Ok (Some call)
  pub none : call_effect unit (call.0) (call.1) row ≡ None

-- ---- the bytes

abbrev pub numbered_text : CUnit → ℕ × Objects → List ℕ
numbered_text unit (number, row) = objects_text unit number row

-- the lines on these rows, which are numbered from here on
abbrev pub rows_text : CUnit → ℕ → List Objects → List ℕ
rows_text unit number rows = flat_map (numbered_text unit) (enumerate_from number rows)

-- all lines are gone through: the bytes are the lines on the initialisers and on the row behind each call, numbered from 0
pub record TellsCalls (unit : CUnit) (calls bytes : List ℕ) : Type 0 where
  pub rows : List Objects
  pub last : Objects
  pub made : MakesCalls unit (initial_objects unit) (lines calls) rows last
  pub told : bytes ≡ rows_text unit 0 (initial_objects unit ∷ rows)

-- the lines in front are gone through, and the calls stop at the first one that is left: the same of these lines, and the line on the fault
pub record TellsFault (unit : CUnit) (calls bytes : List ℕ) : Type 0 where
  pub front : List ℕ
  pub left : List ℕ
  pub rows : List Objects
  pub last : Objects
  pub goes : MakesCallsTo unit calls front left rows last
  pub fault : ScriptKind
  pub stops : StopsScript (IsFaulty unit) (SCRIPT_LIMIT - length front) left fault
  pub told : bytes ≡ rows_text unit 0 (initial_objects unit ∷ rows) ++ script_fault (length (lines front) + 1) fault

-- or the call of that line has no meaning: the line on how many calls there are up to it
pub record TellsOverflow (unit : CUnit) (calls bytes : List ℕ) : Type 0 where
  pub front : List ℕ
  pub left : List ℕ
  pub rows : List Objects
  pub last : Objects
  pub goes : MakesCallsTo unit calls front left rows last
  pub overflows : Overflows unit last (SCRIPT_LIMIT - length front) left
  pub told : bytes ≡ rows_text unit 0 (initial_objects unit ∷ rows) ++ overflow_text (length rows + 1)

-- the text is a unit, and its calls come to no fault and to no overflow
abbrev pub AreMade : List ℕ → List ℕ → Type 0
AreMade text calls = (unit : CUnit) × (length text ≤ C_LIMIT) × Reads text unit × StopsNowhere (TellsFault unit calls) × StopsNowhere (TellsOverflow unit calls)
