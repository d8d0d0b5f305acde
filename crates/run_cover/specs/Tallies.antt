-- Tallies of runs.
use Rattle.std.specs.Prelude.{◌≡◌, ℕ, List, [], ◌∷◌, length, map}
use Rattle.scr_spec.specs.Data.{Data}
use Rattle.scr_spec.specs.Meaning.{Codes}
use Rattle.run_cover.specs.declared.count.Count.{Count}
use Rattle.run_cover.specs.Cells.{CellPlace, cells_of, times_held}
use Rattle.run_cover.specs.Counts.{counted}

-- the last of some states, or the first state where there is none behind it
abbrev pub last_of : Codes → List Codes → Codes
last_of first [] = first
last_of first (new ∷ states) = last_of new states

-- each cell with the number of states at which it held, the present state, and how many states came behind the first one
pub record IsTally (spec : Data) (first : Codes) (states : List Codes) (counts : List Count) (at : Codes) (notes : ℕ) : Type 0 where
  pub each : counts ≡ map (λ cell. counted cell (times_held spec cell first states)) (cells_of spec)
  pub present : at ≡ last_of first states
  pub many : notes ≡ length states

-- it is the tally of some states
pub record IsOfStates (spec : Data) (counts : List Count) (at : Codes) (notes : ℕ) : Type 0 where
  pub first : Codes
  pub states : List Codes
  pub tally : IsTally spec first states counts at notes

-- of each list of states that is counted so, this is the number of steps at which the cell held
abbrev pub TellsHeld : Data → CellPlace → List Count → Codes → ℕ → ℕ → Type 0
TellsHeld spec cell counts at notes times = (first : Codes) (states : List Codes) → IsTally spec first states counts at notes → times ≡ times_held spec cell first states
