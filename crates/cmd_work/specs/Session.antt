-- What a command answers that goes through a file line by line.
use Rattle.std.specs.Prelude.{◌≡◌, ℕ, ◌+◌, ◌-◌, List, [], ◌++◌, length, drop, Option, None, Some, IsTrue}
use Rattle.base_io.specs.declared.lines.Piece.{Piece}
use Rattle.base_io.specs.declared.lines.Piece.TheVariants.{Line}
use Rattle.base_io.specs.Line.{next_piece}
use Rattle.base.specs.Ends.{line_with_end, without_end}
use Rattle.cmd_work.specs.declared.status.Status.{Status}
use Rattle.cmd_work.specs.declared.status.Status.TheVariants.{ReadFault}
use Rattle.cmd_work.specs.declared.walk.TheConstants.{SCRIPT_LIMIT}
use Rattle.cmd_work.specs.Ends.{HasFront, is_own}

-- the bytes and the status that answer the rest of a file: by the number of its first line, by how many bytes count yet,
-- and by the rest
abbrev pub Answering : Type 1
Answering = ℕ → ℕ → List ℕ → List ℕ → Status → Type 0

-- the first line without its end, and the bytes behind its end
abbrev pub first_line : List ℕ → List ℕ
first_line rest = without_end (line_with_end rest)

abbrev pub behind : List ℕ → List ℕ
behind rest = drop (length (line_with_end rest)) rest

-- each rest of a file has an answer
abbrev pub IsAnswered : Answering → Type 0
IsAnswered answers = (number room : ℕ) (rest : List ℕ) → HasFront (answers number room rest) []

-- a text was appended for the line, and what answers the bytes behind the line, put behind this text, answers all
pub record GoesOn (old new : Answering) (number : ℕ) (line before after : List ℕ) : Type 0 where
  pub text : List ℕ
  pub appended : after ≡ before ++ text
  pub leads : (room : ℕ) (rest more : List ℕ) (status : Status) → next_piece room rest ≡ Line → first_line rest ≡ line
      → new (number + 1) (room - length (line_with_end rest)) (behind rest) more status → old number room rest (text ++ more) status
  pub some : IsAnswered new

-- a text was appended that answers the line and all behind it, with this status
pub record IsLast (old : Answering) (number : ℕ) (line before after : List ℕ) (status : Status) : Type 0 where
  pub text : List ℕ
  pub appended : after ≡ before ++ text
  pub answers : (room : ℕ) (rest : List ℕ) → next_piece room rest ≡ Line → first_line rest ≡ line → old number room rest text status
  pub own : IsTrue (is_own status)

-- whether the line was the last one that is answered
abbrev pub AnswersLine : Answering → Answering → ℕ → List ℕ → List ℕ → List ℕ → Option Status → Type 0
AnswersLine old new number line before after None = GoesOn old new number line before after
AnswersLine old new number line before after (Some status) = IsLast old number line before after status

-- a text was appended that answers a rest that begins with no line that can be taken
pub record IsClosed (old : Answering) (number : ℕ) (piece : Piece) (before after : List ℕ) (status : Status) : Type 0 where
  pub text : List ℕ
  pub appended : after ≡ before ++ text
  pub answers : (room : ℕ) (rest : List ℕ) → next_piece room rest ≡ piece → old number room rest text status
  pub own : IsTrue (is_own status)

-- the answer to a file, if it is there: the opening, and then what answers its lines
abbrev pub FileAnswers : List ℕ → Answering → Option (List ℕ) → List ℕ → Status → Type 0
FileAnswers opening answers None bytes status = (bytes ≡ opening) × (status ≡ ReadFault)
FileAnswers opening answers (Some text) bytes status = (more : List ℕ) × (bytes ≡ opening ++ more) × answers 1 SCRIPT_LIMIT text more status
