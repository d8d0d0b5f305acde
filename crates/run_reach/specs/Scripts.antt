-- Scripts, which are lists of inputs: their order, and which of them is the first to lead to a state.
use Rattle.std.specs.Prelude.{◌≡◌, ◌⊎◌, ℕ, zero, suc, ◌<◌, ◌<ℤ◌, List, [], ◌∷◌, length}
use Rattle.scr_spec.specs.Data.{Data}
use Rattle.scr_spec.specs.declared.state.Input.{Input}
use Rattle.scr_spec.specs.Meaning.{Codes}
use Rattle.run_step.specs.Runs.{EndsIn}

-- ---- the order of scripts

-- the input of the lesser variable is the lesser one, and of two of one variable that with the lesser code
abbrev pub IsLesser : Input → Input → Type 0
IsLesser a b = (a.variable < b.variable) ⊎ ((a.variable ≡ b.variable) × (a.code <ℤ b.code))

-- at the first place where they differ, the first script has the lesser input
abbrev pub DiffersByLess : List Input → List Input → Type 0
DiffersByLess [] b = ⊥
DiffersByLess (x ∷ a) [] = ⊥
DiffersByLess (x ∷ a) (y ∷ b) = IsLesser x y ⊎ ((x ≡ y) × DiffersByLess a b)

-- the shorter script comes before, and of two of one length that with the lesser input at the first place where they differ
abbrev pub ComesBefore : List Input → List Input → Type 0
ComesBefore a b = (length a < length b) ⊎ ((length a ≡ length b) × DiffersByLess a b)

-- ---- the states in the order of the scripts that lead to them

-- the run of the script ends in a state in which no run of a script before it does
pub record IsFirstWay (spec : Data) (script : List Input) : Type 0 where
  pub at : Codes
  pub ends : EndsIn spec script at
  pub none_before : (other : List Input) → EndsIn spec other at → ComesBefore other script → ⊥

-- of the first ways to states, it is the one that follows
pub record IsNextWay (spec : Data) (before script : List Input) : Type 0 where
  pub way : IsFirstWay spec script
  pub later : ComesBefore before script
  pub none_between : (other : List Input) → IsFirstWay spec other → ComesBefore before other → ComesBefore other script → ⊥

-- it is the first way to the state with this number, where states are numbered from 0 in the order of their first ways; to the initial
-- state no input leads
abbrev pub IsWayTo : Data → ℕ → List Input → Type 0
IsWayTo spec zero script = script ≡ []
IsWayTo spec (suc number) script = (before : List Input) × IsWayTo spec number before × IsNextWay spec before script
