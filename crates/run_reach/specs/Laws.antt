-- What answers tell.
use Rattle.std.specs.Prelude.{◌≡◌, ◌⊎◌, ℕ, ◌<◌, ◌≤◌, List, length}
use Rattle.scr_spec.specs.Data.{Data}
use Rattle.scr_spec.specs.declared.state.Input.{Input}
use Rattle.scr_depend.specs.declared.order.Order.{Order}
use Rattle.scr_depend.specs.Passes.{PassesChecks}
use Rattle.run_reach.specs.declared.answer.Answer.{Answer}
use Rattle.run_reach.specs.declared.answer.Answer.TheVariants.{Never, Open, Least}
use Rattle.run_reach.specs.Scripts.{ComesBefore}
use Rattle.run_reach.specs.Answers.{Sought, Meets, IsAnswer}

-- scripts are in a total order
pub record OneOrder : Type 0 where
  pub itself : (a : List Input) → ComesBefore a a → ⊥
  pub on : (a b c : List Input) → ComesBefore a b → ComesBefore b c → ComesBefore a c
  pub total : (a b : List Input) → ComesBefore a b ⊎ ((a ≡ b) ⊎ ComesBefore b a)

-- a search has one answer, and never none
pub record OneAnswer : Type 0 where
  pub some : (spec : Data) (sought : Sought) (most : ℕ) (order : Order) → PassesChecks spec order → 0 < most → (a : Answer) × IsAnswer spec sought most a
  pub one : (spec : Data) (sought : Sought) (most : ℕ) (a b : Answer) → IsAnswer spec sought most a → IsAnswer spec sought most b → a ≡ b
  -- where it is open, what is sought comes behind, and needs no fewer inputs
  pub no_fewer : (spec : Data) (sought : Sought) (most : ℕ) (way script : List Input) → IsAnswer spec sought most (Open way) → Meets spec sought script
      → ComesBefore way script × (length way ≤ length script)
  -- an answer that is not open is the same with more room
  pub never : (spec : Data) (sought : Sought) (most more : ℕ) → most ≤ more → IsAnswer spec sought most Never → IsAnswer spec sought more Never
  pub least : (spec : Data) (sought : Sought) (most more : ℕ) (script : List Input) → most ≤ more → IsAnswer spec sought most (Least script) → IsAnswer spec sought more (Least script)
