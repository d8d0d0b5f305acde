-- What `replay` tells of runs.
use Rattle.std.specs.Prelude.{◌≡◌, ℕ, ◌+◌, ◌-◌, List, [], ◌∷◌, ◌++◌, length, Some, None, Ok}
use Rattle.base.specs.Lines.{lines}
use Rattle.scr_spec.specs.Data.{Data}
use Rattle.scr_spec.specs.declared.state.Input.{Input}
use Rattle.scr_spec.specs.Meaning.{Codes}
use Rattle.run_step.specs.Runs.{EndsIn}
use Rattle.cmd_work.specs.declared.walk.TheConstants.{SCRIPT_LIMIT}
use Rattle.cmd_work.specs.Stops.{StopsScript}
use Rattle.base_script.specs.declared.fault.ScriptKind.{ScriptKind}
use Rattle.base_script.specs.Faults.{script_fault}
use Rattle.run_script.specs.Script.{read_line}
use Rattle.cmd_report.specs.Runs.{state_text}
use Rattle.run_back.specs.StepBack.{count_back}
use Rattle.run_back.specs.Holds.{Holds}
use Rattle.cmd_replay.specs.Turns.{turn_of, refuse}

-- the inputs that remain after these lines, with the depth, and the state in which their run ends
pub record Remaining (spec : Data) (lines : List (List ℕ)) : Type 0 where
  pub inputs : List Input
  pub depth : ℕ
  pub holds : Holds spec lines inputs depth
  pub at : Codes
  pub ends : EndsIn spec inputs at

-- the line on that state, with the number of the inputs in front
abbrev pub remaining_text : (spec : Data) {lines : List (List ℕ)} → Remaining spec lines → List ℕ
remaining_text spec r = state_text spec (length r.inputs) r.at

-- behind the lines before them, lines tell these bytes: one that is blank or a comment tells nothing, and one that holds an input or
-- steps back shows what remains after it
pub data TellsLines (spec : Data) : List (List ℕ) → List (List ℕ) → List ℕ → Type 0 where
  none : {before : List (List ℕ)} {bytes : List ℕ} → bytes ≡ [] → TellsLines spec before [] bytes
  silent : {before later : List (List ℕ)} {line bytes : List ℕ} (old : Remaining spec before) → read_line spec old.at line ≡ Ok None
      → TellsLines spec (before ++ line ∷ []) later bytes → TellsLines spec before (line ∷ later) bytes
  forward : {before later : List (List ℕ)} {line bytes : List ℕ} (old : Remaining spec before) (input : Input) (new : Remaining spec (before ++ line ∷ [])) (more : List ℕ)
      → read_line spec old.at line ≡ Ok (Some input) → TellsLines spec (before ++ line ∷ []) later more → bytes ≡ remaining_text spec new ++ more → TellsLines spec before (line ∷ later) bytes
  back : {before later : List (List ℕ)} {line bytes : List ℕ} (count : ℕ) (new : Remaining spec (before ++ line ∷ [])) (more : List ℕ)
      → count_back line ≡ Some count → TellsLines spec (before ++ line ∷ []) later more → bytes ≡ remaining_text spec new ++ more → TellsLines spec before (line ∷ later) bytes

-- the initial state, and then what the lines tell
pub record TellsRuns (spec : Data) (lines : List (List ℕ)) (bytes : List ℕ) : Type 0 where
  pub first : Remaining spec []
  pub more : List ℕ
  pub later : TellsLines spec [] lines more
  pub told : bytes ≡ remaining_text spec first ++ more

-- ---- up to a fault

-- the line is faulty in this state and at this depth
abbrev pub IsFaulty : Data → Codes → ℕ → List ℕ → ScriptKind → Type 0
IsFaulty spec at depth line kind = turn_of spec at depth line ≡ refuse kind

-- where the script stops at the first line of the rest: what the lines before it tell, and then the line on its fault, with its number
pub record TellsToFault (spec : Data) (script bytes : List ℕ) : Type 0 where
  pub front : List ℕ
  pub rest : List ℕ
  pub script_is : script ≡ front ++ rest
  pub before : List (List ℕ)
  pub lines_are : lines script ≡ before ++ lines rest
  pub shown : List ℕ
  pub runs : TellsRuns spec before shown
  pub last : Remaining spec before
  pub kind : ScriptKind
  pub refused : StopsScript (IsFaulty spec last.at last.depth) (SCRIPT_LIMIT - length front) rest kind
  pub told : bytes ≡ shown ++ script_fault (length before + 1) kind
