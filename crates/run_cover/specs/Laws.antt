-- The law on tallies.
use Rattle.std.specs.Prelude.{ℕ, ◌+◌, List, [], ◌∷◌, ◌++◌, map}
use Rattle.scr_spec.specs.Data.{Data}
use Rattle.scr_spec.specs.Meaning.{Codes}
use Rattle.run_cover.specs.declared.count.Count.{Count}
use Rattle.run_cover.specs.Counts.{raised}
use Rattle.run_cover.specs.Tallies.{IsTally}

-- a tally of some states, with each cell counted once more that holds at the present state and the next one, is one of these and the next
pub record OneCover : Type 0 where
  pub noted : (spec : Data) (first : Codes) (states : List Codes) (counts : List Count) (at : Codes) (notes : ℕ) (next : Codes) → IsTally spec first states counts at notes
      → IsTally spec first (states ++ next ∷ []) (map (raised spec at next) counts) next (notes + 1)
