-- What words ask for, and how it is done.
use Rattle.std.specs.Prelude.{◌≡◌, ⊤, ℕ, Bool, true, false, List, [], Option, None, Some, Result, IfOk, IfErr, IfSome, IsSome, IsTrue, IsErrOf}
use Rattle.base_io.specs.Outside.{Contents, Holds, HasRisen}
use Rattle.cmd_work.specs.declared.status.Status.{Status}
use Rattle.cmd_work.specs.declared.status.Status.TheVariants.{Done}
use Rattle.cmd_work.specs.declared.status.Stop.{Stop}
use Rattle.cmd_work.specs.declared.status.Stop.TheVariants.{Read, Write}
use Rattle.cmd_work.specs.Ends.{Files, Answer, Answered, Stopped, IsFront, is_own}

-- ---- work

pub data Work : Type 1 where
  -- no file is begun
  at_once : (List ℕ → Status → Type 0) → Work
  -- the file of this name is read whole, and then one text is written
  by_one : List ℕ → (Option (List ℕ) → List ℕ → Status → Type 0) → Work
  -- The file of the first name is read whole, and where that reaches it, the one of the second name is answered. The truth value tells
  -- whether both are read before a byte is written.
  by_two : Bool → List ℕ → List ℕ → (Option (List ℕ) → Option (List ℕ) → List ℕ → Status → Type 0) → (Option (List ℕ) → Type 0) → Work

-- the bytes and the status that are an answer
abbrev pub WorkAnswers : Work → Answer
WorkAnswers (at_once answers) files = answers
WorkAnswers (by_one name answers) files = answers (files name)
WorkAnswers (by_two reads name second answers reaches) files = answers (files name) (files second)

-- the shelf holds each file that the work reaches
abbrev pub HoldsFiles : Contents → Work → Type 0
HoldsFiles contents (at_once answers) = ⊤
HoldsFiles contents (by_one name answers) = Holds contents name
HoldsFiles contents (by_two reads name second answers reaches) =
    Holds contents name × IfSome contents (λ files. reaches (files name) → IsSome (files second))

-- what is told of the files that the work reads: of work that reads none, all there is to tell
abbrev pub told_for : Work → Contents → Option Files
told_for (at_once answers) contents = Some (λ name. None)
told_for (by_one name answers) contents = contents
told_for (by_two reads name second answers reaches) contents = contents

-- the work begins no file
abbrev pub begins_none : Work → Bool
begins_none (at_once answers) = true
begins_none (by_one name answers) = false
begins_none (by_two reads name second answers reaches) = false

-- the work reads all its files before it writes
abbrev pub reads_first : Work → Bool
reads_first (at_once answers) = false
reads_first (by_one name answers) = true
reads_first (by_two reads name second answers reaches) = reads

-- ---- how it is done

-- What stands of the shelf and the sink before and after: what is told of the shelf's files, whether it is steady, how often a read
-- failed; what is told of the bytes written, and how often a write failed.
pub record Outside : Type 1 where
  pub contents : Contents
  pub IsSteady : Type 0
  pub reads_before : ℕ
  pub reads_after : ℕ
  pub written_before : Option (List ℕ)
  pub written_after : Option (List ℕ)
  pub writes_before : ℕ
  pub writes_after : ℕ

abbrev pub between : Contents → Type 0 → ℕ → ℕ → Option (List ℕ) → Option (List ℕ) → ℕ → ℕ → Outside
between contents steady reads reads_after written written_after writes writes_after = record {
  contents = contents;
  IsSteady = steady;
  reads_before = reads;
  reads_after = reads_after;
  written_before = written;
  written_after = written_after;
  writes_before = writes;
  writes_after = writes_after;
}

-- The work was done, up to the first fault.
pub record IsDone (outside : Outside) (work : Work) (result : Result Status Stop) : Type 0 where
  pub answered : IfOk result (Answered (told_for work outside.contents) outside.written_before outside.written_after (WorkAnswers work))
  pub stopped : IfErr result (Stopped (told_for work outside.contents) outside.written_before outside.written_after (WorkAnswers work))
  pub status : IfOk result (λ status. IsTrue (is_own status))
  pub nothing : IsTrue (reads_first work) → IsErrOf result Read → outside.written_after ≡ outside.written_before
  pub read_cause : IsErrOf result Read → HasRisen outside.reads_before outside.reads_after
  pub write_cause : IsErrOf result Write → HasRisen outside.writes_before outside.writes_after
  pub no_file : IsTrue (begins_none work) → outside.reads_after ≡ outside.reads_before
  pub no_read : IsTrue (begins_none work) → IsErrOf result Read → ⊥
  pub succeeds : outside.IsSteady → HoldsFiles outside.contents work → IsErrOf result Read → ⊥

-- ---- commands

-- what words ask of a command
pub record Task : Type 1 where
  pub work : Work
  -- the first file is there and accepted, and the second one is there
  pub IsAccepted : Files → Type 0
  -- so it is, and nothing is found in the files that another status than `Done` tells
  pub IsFaultless : Files → Type 0
  -- with which status accepted files may end
  pub may_end : Status → Bool

-- Files have one answer and never none; where they are accepted, it is one that they may end with, and `Done` where they are faultless.
pub record IsRight (task : Task) : Type 0 where
  pub once : (files : Files) (x y : List ℕ) (i j : Status) → WorkAnswers task.work files x i → WorkAnswers task.work files y j → (x ≡ y) × (i ≡ j)
  pub some : (files : Files) → IsFront (WorkAnswers task.work files) []
  pub ends : (files : Files) (bytes : List ℕ) (status : Status) → task.IsAccepted files → WorkAnswers task.work files bytes status → IsTrue (task.may_end status)
  pub done : (files : Files) (bytes : List ℕ) (status : Status) → task.IsFaultless files → WorkAnswers task.work files bytes status → status ≡ Done

-- accepted files are answered to the end
abbrev pub only_done : Status → Bool
only_done Done = true
only_done status = false

-- what words ask of a command: nothing where they have another form
pub data Asked : Type 1 where
  nothing : Asked
  asks : Task → Asked

-- the task by what the words name
abbrev pub asked_by : {A : Type 0} → (A → Task) → Option A → Asked
asked_by task None = nothing
asked_by task (Some named) = asks (task named)

-- it is right, if there is one
abbrev pub IsRightly : Asked → Type 0
IsRightly nothing = ⊤
IsRightly (asks task) = IsRight task

-- each task of words is right
abbrev pub AreRight : (List (List ℕ) → Asked) → Type 0
AreRight takes = (words : List (List ℕ)) → IsRightly (takes words)

-- what the first of two commands is asked, or else the second
abbrev pub or_else : Asked → Asked → Asked
or_else nothing other = other
or_else (asks task) other = asks task

-- a command did what it was asked; where it was asked nothing, nothing is changed
abbrev pub IsPerformed : Asked → Option (Result Status Stop) → Type 0 → Outside → Type 0
IsPerformed nothing None same outside = same
IsPerformed nothing (Some result) same outside = ⊥
IsPerformed (asks task) None same outside = ⊥
IsPerformed (asks task) (Some result) same outside = IsDone outside task.work result
