-- Inputs to variables that are not kept.
use Rattle.std.specs.Prelude.{◌≡◌, ℕ, Bool, not, List, Option, find}
use Rattle.scr_spec.specs.Data.{Data}
use Rattle.scr_spec.specs.declared.state.Input.{Input}
use Rattle.scr_spec.specs.Meaning.{Codes}
use Rattle.scr_depend.specs.Graphs.{is_among}
use Rattle.run_step.specs.Runs.{IsInitial}
use Rattle.run_reach.specs.Inputs.{inputs_of}

abbrev pub is_dropped : List ℕ → Input → Bool
is_dropped keep input = not (is_among keep input.variable)

abbrev pub first_dropped : List ℕ → List Input → Option Input
first_dropped keep inputs = find (is_dropped keep) inputs

-- the first input to a variable that is not kept, of those that may come in the initial state
pub record IsFirstOutside (spec : Data) (keep : List ℕ) (input : Option Input) : Type 0 where
  pub first : Codes
  pub initial : IsInitial spec first
  pub found : input ≡ first_dropped keep (inputs_of spec first)
