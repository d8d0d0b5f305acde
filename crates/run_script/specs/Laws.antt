-- Laws of script lines and of scripts.
use Rattle.std.specs.Prelude.{◌≡◌, List, ◌∷◌, ℕ, Some, Ok}
use Rattle.scr_spec.specs.Data.{Data}
use Rattle.scr_spec.specs.declared.state.Input.{Input}
use Rattle.scr_spec.specs.Meaning.{Codes}
use Rattle.scr_spec.specs.Sound.{IsSound}
use Rattle.scr_depend.specs.declared.order.Order.{Order}
use Rattle.run_step.specs.Runs.{IsConsistent, IsInitial, IsInput, IsRun}
use Rattle.scr_depend.specs.Passes.{PassesChecks}
use Rattle.run_script.specs.Script.{read_line}
use Rattle.run_script.specs.Scripts.{Ending, Reads}
use Rattle.run_script.specs.Through.{GoesThrough}

-- what a line holds is an input that may come in the state
pub record LinesHoldInputs : Type 0 where
  pub may_come : (spec : Data) (at : Codes) (line : List ℕ) (input : Input) → IsSound spec → read_line spec at line ≡ Ok (Some input) → IsInput spec at input

-- from this state and line number on, the lines go in some way
pub record Goes (spec : Data) (at : Codes) (number : ℕ) (lines : List (List ℕ)) : Type 0 where
  pub inputs : List Input
  pub states : List Codes
  pub ending : Ending
  pub reads : Reads spec at number lines inputs states ending

-- a script goes in one way, and from the initial state on its states are those of the run of its inputs
pub record OneScript : Type 0 where
  pub goes : (spec : Data) (order : Order) (at : Codes) (number : ℕ) (lines : List (List ℕ)) → PassesChecks spec order → IsConsistent spec at → Goes spec at number lines
  pub once : (spec : Data) (order : Order) (at : Codes) (number : ℕ) (lines : List (List ℕ)) (a b : List Input) (s t : List Codes) (i j : Ending) → PassesChecks spec order → IsConsistent spec at
      → Reads spec at number lines a s i → Reads spec at number lines b t j → (a ≡ b) × (s ≡ t) × (i ≡ j)
  pub run : (spec : Data) (first : Codes) (number : ℕ) (lines : List (List ℕ)) (inputs : List Input) (states : List Codes) (ending : Ending) → IsInitial spec first
      → Reads spec first number lines inputs states ending → IsRun spec inputs (first ∷ states)
  -- so one that goes through has one list of inputs, and its states are those of their run
  pub through : (spec : Data) (lines : List (List ℕ)) (inputs : List Input) (states : List Codes) → GoesThrough spec lines inputs states → IsRun spec inputs states
  pub through_once : (spec : Data) (order : Order) (lines : List (List ℕ)) (a b : List Input) (s t : List Codes) → PassesChecks spec order → GoesThrough spec lines a s → GoesThrough spec lines b t
      → (a ≡ b) × (s ≡ t)
