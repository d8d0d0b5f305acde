-- What a line of a replay asks for.
use Rattle.std.specs.Prelude.{ℕ, nat_le, if◌then◌else◌, List, Option, Some, None, Ok, Err}
use Rattle.base_script.specs.declared.fault.ScriptKind.{ScriptKind}
use Rattle.base_script.specs.declared.fault.ScriptKind.TheVariants as kind
use Rattle.scr_spec.specs.Data.{Data}
use Rattle.scr_spec.specs.declared.state.Input.{Input}
use Rattle.scr_spec.specs.Meaning.{Codes}
use Rattle.run_script.specs.Faults.{kind_of}
use Rattle.run_script.specs.Script.{Reading, read_line}
use Rattle.run_back.specs.StepBack.{count_back}

pub data Turn : Type 0 where
  -- nothing: it is blank or a comment
  stay : Turn
  -- an input is added
  add : Input → Turn
  -- the last inputs are taken away, so many
  take : ℕ → Turn
  -- it is faulty
  refuse : ScriptKind → Turn

abbrev pub set_turn : Reading → Turn
set_turn (Ok None) = stay
set_turn (Ok (Some input)) = add input
set_turn (Err fault) = refuse (kind_of fault)

-- a BACK of at most the depth; any other line as in a plain script
abbrev pub turn_by : Option ℕ → ℕ → Reading → Turn
turn_by (Some count) depth reading = if nat_le count depth then take count else refuse kind.Back
turn_by None depth reading = set_turn reading

-- what the line asks for in this state, where so many states back are kept
abbrev pub turn_of : Data → Codes → ℕ → List ℕ → Turn
turn_of spec at depth line = turn_by (count_back line) depth (read_line spec at line)
