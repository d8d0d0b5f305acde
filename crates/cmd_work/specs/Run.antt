-- How a run ends.
use Rattle.std.specs.Prelude.{◌≡◌, ◌≢◌, ◌⊎◌, ℕ, List, [], ⊤, Option, Result, Ok, Err, IsTrue}
use Rattle.std.specs.Io.KnownBytes.{Appends}
use Rattle.base_io.specs.Outside.{HasRisen, AppendsPart}
use Rattle.cmd_work.specs.declared.status.Status.{Status}
use Rattle.cmd_work.specs.declared.status.Status.TheVariants.{Usage, ReadFault, WriteFault, NoMemory}
use Rattle.cmd_work.specs.declared.status.Stop.{Stop}
use Rattle.cmd_work.specs.declared.status.Stop.TheVariants as stop
use Rattle.cmd_work.specs.Ends.{Files, Answered, Ended, IsFront}
use Rattle.cmd_work.specs.Work.{Work, at_once, Asked, nothing, asks, Outside, WorkAnswers, HoldsFiles, told_for, begins_none, reads_first}

-- of words that have no form
abbrev pub IsUsage : List ℕ → List ℕ → Status → Type 0
IsUsage usage bytes status = (bytes ≡ usage) × (status ≡ Usage)

-- the work that words ask for: where they have no form, the usage line
abbrev pub work_of : List ℕ → Asked → Work
work_of usage nothing = at_once (IsUsage usage)
work_of usage (asks task) = task.work

-- how a run ends whose work ended so
abbrev pub ending_of : Result Status Stop → Status
ending_of (Ok status) = status
ending_of (Err stop.Read) = ReadFault
ending_of (Err stop.Write) = WriteFault
ending_of (Err stop.NoMemory) = NoMemory

-- the usage line was written, or a part of it
pub record IsPut (usage : List ℕ) (old new : Option (List ℕ)) (writes writes_after : ℕ) (result : Status) : Type 0 where
  pub either : ((result ≡ Usage) × Appends old new usage) ⊎ ((result ≡ WriteFault) × AppendsPart old new usage × HasRisen writes writes_after)

-- the words have no form
abbrev pub HaveNoForm : Asked → Type 0
HaveNoForm nothing = ⊤
HaveNoForm (asks task) = ⊥

-- A run with words that ask for this ended.
pub record IsRun (outside : Outside) (line : List ℕ) (asked : Asked) (result : Status) : Type 0 where
  -- Where the shelf tells its contents and the sink its bytes, exactly an answer that is defined was appended, and the status is that
  -- answer's. With a fault it was the front of such an answer, with `WriteFault` not all of it. Where no file is begun it is so on
  -- every shelf.
  pub ended : Ended (told_for (work_of line asked) outside.contents) outside.written_before outside.written_after (WorkAnswers (work_of line asked)) result
  -- with `ReadFault`, words whose files are all read before a byte is written have appended nothing
  pub nothing : IsTrue (reads_first (work_of line asked)) → result ≡ ReadFault → outside.written_after ≡ outside.written_before
  -- a fault comes only where the shelf, or the sink, failed in this run
  pub read_cause : result ≡ ReadFault → HasRisen outside.reads_before outside.reads_after
  pub write_cause : result ≡ WriteFault → HasRisen outside.writes_before outside.writes_after
  -- `Usage` comes only from words that have no form, and these end with it, or with `WriteFault`
  pub usage : result ≡ Usage → HaveNoForm asked
  pub no_form : HaveNoForm asked → (result ≡ Usage) ⊎ (result ≡ WriteFault)
  -- for words that name no file the shelf's count of failures is as before, and `ReadFault` never comes
  pub no_file : IsTrue (begins_none (work_of line asked)) → outside.reads_after ≡ outside.reads_before
  pub no_read : IsTrue (begins_none (work_of line asked)) → result ≢ ReadFault
  -- On a steady shelf that holds each file that the work reaches, `ReadFault` never comes. So a failure at any other file cannot be
  -- its cause.
  pub succeeds : outside.IsSteady → HoldsFiles outside.contents (work_of line asked) → result ≢ ReadFault
  -- where neither the shelf nor the sink failed in this run, the answer is whole, or memory was wanting
  pub complete : (HasRisen outside.reads_before outside.reads_after → ⊥) → (HasRisen outside.writes_before outside.writes_after → ⊥)
      → (result ≡ NoMemory) ⊎ Answered (told_for (work_of line asked) outside.contents) outside.written_before outside.written_after (WorkAnswers (work_of line asked)) result

-- words and files have one answer, and never none
pub record OneAnswer (usage : List ℕ) (takes : List (List ℕ) → Asked) : Type 0 where
  pub once : (words : List (List ℕ)) (files : Files) (x y : List ℕ) (i j : Status) → WorkAnswers (work_of usage (takes words)) files x i
      → WorkAnswers (work_of usage (takes words)) files y j → (x ≡ y) × (i ≡ j)
  pub some : (words : List (List ℕ)) (files : Files) → IsFront (WorkAnswers (work_of usage (takes words)) files) []
