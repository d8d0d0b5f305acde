-- The inputs that a replay holds.
use Rattle.std.specs.Prelude.{◌≡◌, ℕ, ◌+◌, ◌-◌, ◌≤◌, min, List, [], ◌∷◌, ◌++◌, length, Some, None, Ok}
use Rattle.scr_spec.specs.Data.{Data}
use Rattle.scr_spec.specs.declared.state.Input.{Input}
use Rattle.scr_spec.specs.Meaning.{Codes}
use Rattle.run_step.specs.Runs.{EndsIn}
use Rattle.run_script.specs.Script.{read_line}
use Rattle.run_back.specs.StepBack.{count_back}

-- after these lines these inputs are held, at this depth: at first none. A SET line adds its input, and the depth grows up to 256;
-- BACK n takes the last n inputs away, with n at most the depth. Lines are read in the state in which the run of the inputs ends.
pub data Holds (spec : Data) : List (List ℕ) → List Input → ℕ → Type 0 where
  none : Holds spec [] [] 0
  passed : {lines : List (List ℕ)} {inputs : List Input} {depth : ℕ} {at : Codes} (line : List ℕ) → Holds spec lines inputs depth
      → EndsIn spec inputs at → read_line spec at line ≡ Ok None → Holds spec (lines ++ line ∷ []) inputs depth
  added : {lines : List (List ℕ)} {inputs : List Input} {depth : ℕ} {at : Codes} (line : List ℕ) (input : Input) → Holds spec lines inputs depth
      → EndsIn spec inputs at → read_line spec at line ≡ Ok (Some input) → Holds spec (lines ++ line ∷ []) (inputs ++ input ∷ []) (min 256 (depth + 1))
  taken : {lines : List (List ℕ)} {depth : ℕ} (line : List ℕ) (inputs last : List Input) → Holds spec lines (inputs ++ last) depth
      → count_back line ≡ Some (length last) → length last ≤ depth → Holds spec (lines ++ line ∷ []) inputs (depth - length last)
