-- What the answers tell.
use Rattle.std.specs.Prelude.{◌≡◌, ℕ, ◌<◌, ◌≤◌, Bool, IsTrue, List, length}
use Rattle.scr_spec.specs.Data.{Data}
use Rattle.scr_spec.specs.declared.cond.Cond.{Cond}
use Rattle.scr_spec.specs.declared.state.Input.{Input}
use Rattle.scr_spec.specs.Over.{is_cond_over}
use Rattle.scr_depend.specs.declared.order.Order.{Order}
use Rattle.scr_depend.specs.Passes.{PassesChecks}
use Rattle.run_reach.specs.declared.answer.Answer.{Answer}
use Rattle.run_reach.specs.declared.answer.Answer.TheVariants.{Open}
use Rattle.run_reach.specs.Answers.{Meets}
use Rattle.run_reach.specs.Targets.{broken_by}
use Rattle.run_broken.specs.Breaks.{IsBreak}

-- a search has one answer, and never none
pub record OneBreak : Type 0 where
  pub some : (spec : Data) (two : Bool) (c : Cond) (most : ℕ) (order : Order) → PassesChecks spec order → IsTrue (is_cond_over spec c) → 0 < most
      → ((a : Answer) → IsBreak spec two c most a → ⊥) → ⊥
  pub one : (spec : Data) (two : Bool) (c : Cond) (most : ℕ) (a b : Answer) → IsBreak spec two c most a → IsBreak spec two c most b → a ≡ b
  -- where it is open, a script that breaks the assertion has no fewer inputs than the way to the state for which there is no room
  pub no_fewer : (spec : Data) (two : Bool) (c : Cond) (most : ℕ) (way script : List Input) → IsBreak spec two c most (Open way) → Meets spec (broken_by spec two c) script
      → length way ≤ length script
