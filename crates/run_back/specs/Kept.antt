-- What a replay keeps of a run.
use Rattle.std.specs.Prelude.{◌≡◌, ℕ, List, [], ◌∷◌, ◌++◌, length}
use Rattle.std.specs.List.{AllByRecursion}
use Rattle.scr_spec.specs.Data.{Data}
use Rattle.scr_spec.specs.declared.state.Input.{Input}
use Rattle.scr_spec.specs.Meaning.{Codes}
use Rattle.run_step.specs.Runs.{IsRun}

-- the earlier states, oldest first, the present one, and how many inputs are held
pub record Kept : Type 0 where
  pub earlier : List Codes
  pub at : Codes
  pub number : ℕ

abbrev pub kept : List Codes → Codes → ℕ → Kept
kept earlier at number = record { earlier = earlier; at = at; number = number }

-- the states that are kept, the present one last
abbrev pub states_of : Kept → List Codes
states_of k = k.earlier ++ k.at ∷ []

-- the run of the inputs ends with the states that are kept
pub record Shows (spec : Data) (inputs : List Input) (k : Kept) : Type 0 where
  pub before : List Codes
  pub run : IsRun spec inputs (before ++ states_of k)
  pub number : k.number ≡ length inputs

-- they are the last states of a run, so each goes by one step to the next
pub record IsOfRun (spec : Data) (k : Kept) : Type 0 where
  pub inputs : List Input
  pub shows : Shows spec inputs k

-- each list of codes has so many
abbrev pub HaveLength : ℕ → List Codes → Type 0
HaveLength count list = AllByRecursion (λ codes. length codes ≡ count) list
