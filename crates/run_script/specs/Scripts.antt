-- What a script makes of a state, line by line.
use Rattle.std.specs.Prelude.{◌≡◌, ℕ, ◌+◌, List, [], ◌∷◌, Some, None, Ok, Err}
use Rattle.scr_spec.specs.Data.{Data}
use Rattle.scr_spec.specs.declared.state.Input.{Input}
use Rattle.scr_spec.specs.Meaning.{Codes}
use Rattle.run_step.specs.Runs.{IsStep}
use Rattle.run_script.specs.declared.fault.ScriptFault.{ScriptFault}
use Rattle.run_script.specs.Script.{read_line}

-- how a script ends: with its last line, or with the line of this number, which has this fault
pub data Ending : Type 0 where
  Whole : Ending
  Faulty : ℕ → ScriptFault → Ending

-- from this state and line number on, the lines hold these inputs, which lead to these states, and end so
pub data Reads (spec : Data) : Codes → ℕ → List (List ℕ) → List Input → List Codes → Ending → Type 0 where
  whole : {at : Codes} {number : ℕ} → Reads spec at number [] [] [] Whole
  faulty : {at : Codes} {number : ℕ} {line : List ℕ} {lines : List (List ℕ)} {fault : ScriptFault} → read_line spec at line ≡ Err fault
      → Reads spec at number (line ∷ lines) [] [] (Faulty number fault)
  passed : {at : Codes} {number : ℕ} {line : List ℕ} {lines : List (List ℕ)} {inputs : List Input} {states : List Codes} {ending : Ending} → read_line spec at line ≡ Ok None
      → Reads spec at (number + 1) lines inputs states ending → Reads spec at number (line ∷ lines) inputs states ending
  taken : {at new : Codes} {number : ℕ} {line : List ℕ} {lines : List (List ℕ)} {input : Input} {inputs : List Input} {states : List Codes} {ending : Ending}
      → read_line spec at line ≡ Ok (Some input) → IsStep spec at input new → Reads spec new (number + 1) lines inputs states ending
      → Reads spec at number (line ∷ lines) (input ∷ inputs) (new ∷ states) ending
