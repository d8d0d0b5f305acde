-- What the answer to a search for a script that breaks an assertion means.
use Rattle.std.specs.Prelude.{◌≡◌, ℕ, Bool, not, List}
use Rattle.scr_spec.specs.Data.{Data}
use Rattle.scr_spec.specs.declared.cond.Cond.{Cond}
use Rattle.scr_spec.specs.declared.state.Input.{Input}
use Rattle.scr_spec.specs.Meaning.{Codes}
use Rattle.prove_formula.specs.Between.{is_true_between}
use Rattle.run_reach.specs.declared.answer.Answer.{Answer}
use Rattle.run_reach.specs.declared.answer.Answer.TheVariants.{Never, Open, Least}
use Rattle.run_reach.specs.Scripts.{ComesBefore, IsWayTo}
use Rattle.run_reach.specs.Answers.{Sought, Meets, NoneMeets, IsLeast}
use Rattle.run_reach.specs.Targets.{broken_by}
use Rattle.run_broken.specs.Slices.{IsSliceFor, whole_inputs}

-- ---- the search over the states of the slice

-- where the states of the slice that the condition needs are numbered from 0 in the order of their first ways, the script is the first way to the
-- state with this number: the first state for which there is no room where at most so many are stored
pub record IsFullAt (spec : Data) (c : Cond) (most : ℕ) (script : List Input) : Type 0 where
  pub keep : List ℕ
  pub slice : Data
  pub needed : IsSliceFor spec c keep slice
  pub way : List Input
  pub is_way : IsWayTo slice most way
  pub whole : script ≡ whole_inputs keep way

-- there is room for all states of the slice
abbrev pub HasRoom : Data → Cond → ℕ → Type 0
HasRoom spec c most = (way : List Input) → IsFullAt spec c most way → ⊥

-- there is room for each state of the slice whose first way comes before the script
abbrev pub HasRoomUpTo : Data → Cond → ℕ → List Input → Type 0
HasRoomUpTo spec c most script = (way : List Input) → IsFullAt spec c most way → ComesBefore way script → ⊥

-- ---- answers

-- by this script there is a state of the slice for which there is no room, and each script that breaks the assertion comes behind
pub record IsOpenBreak (spec : Data) (two : Bool) (c : Cond) (most : ℕ) (way : List Input) : Type 0 where
  pub full : IsFullAt spec c most way
  pub behind : (script : List Input) → Meets spec (broken_by spec two c) script → ComesBefore way script

-- no run of the whole breaks the assertion; or this is the least script that does; or each that does comes behind this one, to which the
-- search over the states of the slice has come when there was no room for one more
abbrev pub IsBreak : Data → Bool → Cond → ℕ → Answer → Type 0
IsBreak spec two c most Never = NoneMeets spec (broken_by spec two c) × HasRoom spec c most
IsBreak spec two c most (Open way) = IsOpenBreak spec two c most way
IsBreak spec two c most (Least script) = IsLeast spec (broken_by spec two c) script × HasRoomUpTo spec c most script

-- ---- what is sought at the ends of runs

-- a state, the initial one or one after a step
abbrev pub at_end : (Codes → Bool) → Sought
at_end bad = record { at_first = bad; at_step = λ old new. bad new }

-- one at which a step that changes nothing breaks the assertion of two states
abbrev pub broken_still : Data → Cond → Sought
broken_still spec c = at_end (λ at. not (is_true_between spec at at c))
