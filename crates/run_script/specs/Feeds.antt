-- What a script line does to a simulator.
use Rattle.std.specs.Prelude.{◌≡◌, List, ℕ, Bool, true, false, Some, None, Ok, Err}
use Rattle.scr_spec.specs.Data.{Data}
use Rattle.scr_spec.specs.declared.state.Input.{Input}
use Rattle.scr_spec.specs.Meaning.{Codes}
use Rattle.run_step.specs.Runs.{IsStep}
use Rattle.run_script.specs.declared.fault.ScriptFault.{ScriptFault}
use Rattle.run_script.specs.Script.{read_line}

-- the line holds an input, which leads to the new state by one step
pub record Accepts (spec : Data) (line : List ℕ) (old new : Codes) : Type 0 where
  pub input : Input
  pub read : read_line spec old line ≡ Ok (Some input)
  pub step : IsStep spec old input new

-- the line is blank or a comment
pub record Passes (spec : Data) (line : List ℕ) (old new : Codes) : Type 0 where
  pub read : read_line spec old line ≡ Ok None
  pub same : new ≡ old

-- whether there is an input
abbrev pub Feeds : Data → List ℕ → Codes → Codes → Bool → Type 0
Feeds spec line old new true = Accepts spec line old new
Feeds spec line old new false = Passes spec line old new

-- the line has this fault
pub record Refuses (spec : Data) (line : List ℕ) (old new : Codes) (fault : ScriptFault) : Type 0 where
  pub read : read_line spec old line ≡ Err fault
  pub same : new ≡ old
