-- The law of `runc`.
use Rattle.std.specs.Prelude.{◌≡◌, ◌⊎◌, ◌≤◌, ℕ, List, [], length, Option, Some}
use Rattle.c_subset.specs.declared.unit.CUnit.{CUnit}
use Rattle.c_subset.specs.Meaning.{Objects}
use Rattle.c_reader.specs.Text.{Reads}
use Rattle.cmd_work.specs.declared.status.Status.{Status}
use Rattle.cmd_work.specs.declared.status.Status.TheVariants.{Done, Findings, ScriptRefused}
use Rattle.cmd_work.specs.Ends.{IsFront, HasFront}
use Rattle.cmd_work.specs.Session.{IsAnswered}
use Rattle.cmd_runc.specs.declared.command.TheConstants.{C_LIMIT}
use Rattle.cmd_runc.specs.Runs.{RunsCalls, RunsFile, RunCAnswers}
use Rattle.cmd_runc.specs.Tells.{TellsCalls, TellsFault, TellsOverflow, AreMade}

-- how calls of a unit end
abbrev pub IsEnding : Status → Type 0
IsEnding status = (status ≡ Done) ⊎ ((status ≡ Findings) ⊎ (status ≡ ScriptRefused))

pub record OneAnswerOfCalls : Type 0 where
  -- from each row of objects on, a rest of a file of calls has one answer
  pub once : (unit : CUnit) (row : Objects) (count number room : ℕ) (rest x y : List ℕ) (i j : Status)
      → RunsCalls unit row count number room rest x i → RunsCalls unit row count number room rest y j → (x ≡ y) × (i ≡ j)
  pub some : (unit : CUnit) (row : Objects) (count : ℕ) → IsAnswered (RunsCalls unit row count)
  -- a unit has one answer to a file of calls
  pub file_once : (unit : CUnit) (calls : Option (List ℕ)) (x y : List ℕ) (i j : Status) → RunsFile unit calls x i → RunsFile unit calls y j → (x ≡ y) × (i ≡ j)
  pub file_some : (unit : CUnit) (calls : Option (List ℕ)) → HasFront (RunsFile unit calls) []
  -- files have one answer of `runc`, and never none
  pub one : (held calls : Option (List ℕ)) (x y : List ℕ) (i j : Status) → RunCAnswers held calls x i → RunCAnswers held calls y j → (x ≡ y) × (i ≡ j)
  pub never_none : (held calls : Option (List ℕ)) → IsFront (RunCAnswers held calls) []
  -- a text that is a unit, where there is a file of calls, is answered with `Done`, or with what a call that overflows or a faulty line gives
  pub ends : (text calls bytes : List ℕ) (status : Status) (unit : CUnit) → length text ≤ C_LIMIT → Reads text unit → RunCAnswers (Some text) (Some calls) bytes status → IsEnding status
  -- with `Done` the text is a unit, and what is written are the objects before the first call and behind each
  pub run : (text calls bytes : List ℕ) → RunCAnswers (Some text) (Some calls) bytes Done → (unit : CUnit) × (length text ≤ C_LIMIT) × Reads text unit × TellsCalls unit calls bytes
  -- with `ScriptRefused` it is one as well, and the same was written of the lines in front of the one at which the calls stop, and then its fault
  pub front : (text calls bytes : List ℕ) → RunCAnswers (Some text) (Some calls) bytes ScriptRefused → (unit : CUnit) × (length text ≤ C_LIMIT) × Reads text unit × TellsFault unit calls bytes
  -- and with `Findings` in front of the first call that overflows, and then how many calls there are up to it
  pub overflow : (text calls bytes : List ℕ) → RunCAnswers (Some text) (Some calls) bytes Findings → (unit : CUnit) × (length text ≤ C_LIMIT) × Reads text unit × TellsOverflow unit calls bytes
  -- where the calls come to neither, the ending is `Done`
  pub done : (text calls bytes : List ℕ) (status : Status) → AreMade text calls → RunCAnswers (Some text) (Some calls) bytes status → status ≡ Done
