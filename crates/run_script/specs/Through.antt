-- A script that goes through: none of its lines is faulty.
use Rattle.std.specs.Prelude.{◌≡◌, ℕ, List, ◌∷◌}
use Rattle.scr_spec.specs.Data.{Data}
use Rattle.scr_spec.specs.declared.state.Input.{Input}
use Rattle.scr_spec.specs.Meaning.{Codes}
use Rattle.run_step.specs.Runs.{IsInitial}
use Rattle.run_script.specs.Scripts.{Whole, Reads}

-- from the initial state on the lines hold these inputs, which lead to these states, the initial one in front
pub record GoesThrough (spec : Data) (lines : List (List ℕ)) (inputs : List Input) (states : List Codes) : Type 0 where
  pub first : Codes
  pub later : List Codes
  pub is : states ≡ first ∷ later
  pub initial : IsInitial spec first
  pub reads : Reads spec first 1 lines inputs later Whole
