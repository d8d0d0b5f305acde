-- What is sought in the runs of a specification, and what the answer to a search for it means.
use Rattle.std.specs.Prelude.{◌≡◌, ◌⊎◌, ℕ, Bool, true, List, [], ◌∷◌, ◌++◌}
use Rattle.scr_spec.specs.Data.{Data}
use Rattle.scr_spec.specs.declared.state.Input.{Input}
use Rattle.scr_spec.specs.Meaning.{Codes}
use Rattle.run_step.specs.Runs.{IsInitial, IsStep, EndsIn}
use Rattle.run_reach.specs.declared.answer.Answer.{Answer}
use Rattle.run_reach.specs.declared.answer.Answer.TheVariants.{Never, Open, Least}
use Rattle.run_reach.specs.Scripts.{ComesBefore, IsWayTo}

-- what is sought: an initial state, and a step from an old to a new state
pub record Sought : Type 0 where
  pub at_first : Codes → Bool
  pub at_step : Codes → Codes → Bool

-- ---- scripts that meet what is sought

-- the script has no input, and the initial state is sought
pub record MeetsAtFirst (spec : Data) (sought : Sought) (script : List Input) : Type 0 where
  pub none : script ≡ []
  pub first : Codes
  pub initial : IsInitial spec first
  pub met : sought.at_first first ≡ true

-- the step of its last input is sought
pub record MeetsAtLast (spec : Data) (sought : Sought) (script : List Input) : Type 0 where
  pub front : List Input
  pub last : Input
  pub whole : script ≡ front ++ last ∷ []
  pub old : Codes
  pub new : Codes
  pub ends : EndsIn spec front old
  pub step : IsStep spec old last new
  pub met : sought.at_step old new ≡ true

abbrev pub Meets : Data → Sought → List Input → Type 0
Meets spec sought script = MeetsAtFirst spec sought script ⊎ MeetsAtLast spec sought script

abbrev pub NoneMeets : Data → Sought → Type 0
NoneMeets spec sought = (script : List Input) → Meets spec sought script → ⊥

-- it meets what is sought, and none before it does
pub record IsLeast (spec : Data) (sought : Sought) (script : List Input) : Type 0 where
  pub meets : Meets spec sought script
  pub none_before : (other : List Input) → Meets spec sought other → ComesBefore other script → ⊥

-- ---- answers, where so many states are stored at most

-- the first way to the first state for which there is no room; neither it nor a script before it meets what is sought
pub record IsOpenAt (spec : Data) (sought : Sought) (most : ℕ) (script : List Input) : Type 0 where
  pub way : IsWayTo spec most script
  pub itself : Meets spec sought script → ⊥
  pub none_before : (other : List Input) → Meets spec sought other → ComesBefore other script → ⊥

-- there is room for each state whose first way comes before the script
abbrev pub HasRoomUpTo : Data → ℕ → List Input → Type 0
HasRoomUpTo spec most script = (way : List Input) → IsWayTo spec most way → ComesBefore way script → ⊥

-- there is room for all states that are reached
abbrev pub HasRoom : Data → ℕ → Type 0
HasRoom spec most = (way : List Input) → IsWayTo spec most way → ⊥

-- no script meets what is sought; or this is the least one; or by this script there is a state for which there is no room, and neither it nor
-- a script before it meets what is sought
abbrev pub IsAnswer : Data → Sought → ℕ → Answer → Type 0
IsAnswer spec sought most Never = NoneMeets spec sought × HasRoom spec most
IsAnswer spec sought most (Open script) = IsOpenAt spec sought most script
IsAnswer spec sought most (Least script) = IsLeast spec sought script × HasRoomUpTo spec most script
