-- What is printed is so.
use Rattle.std.specs.Prelude.{◌≡◌, ℕ, List, Some, codes}
use Rattle.dd_store.specs.declared.store.TheConstants.{SPLIT_LIMIT}
use Rattle.scr_spec.specs.Data.{Data}
use Rattle.scr_depend.specs.declared.order.Order.{Order}
use Rattle.cmd_work.specs.declared.status.Status.{Status}
use Rattle.cmd_work.specs.declared.status.Status.TheVariants.{Done}
use Rattle.cmd_work.specs.Ends.{Files}
use Rattle.cmd_work.specs.Words.{behind}
use Rattle.cmd_checked.specs.Checking.{Passes}
use Rattle.cmd_reach.specs.Laws.{TellsReach, AreNeverBroken}
use Rattle.cmd_reach.specs.Offered.{names_and_states}
use Rattle.cli_scrx.specs.Commands.{Answers}

-- an answer to the words of `reach` on a text that passes its checks: the line on why the second text spells no assertions, or for each
-- of them what is so; with `Done` the first text passes, and no run breaks an assertion
pub record PrintedReached : Type 0 where
  pub tells : (words : List (List ℕ)) (files : Files) (name other : List ℕ) (most : ℕ) (text second bytes : List ℕ) (status : Status) (spec : Data) (order : Order)
      → names_and_states (behind (codes "reach") words) ≡ Some (name, other, most)
      → files name ≡ Some text → files other ≡ Some second → Passes SPLIT_LIMIT text spec order → Answers words files bytes status
      → TellsReach most spec second bytes status
  pub done : (words : List (List ℕ)) (files : Files) (name other : List ℕ) (most : ℕ) (text second bytes : List ℕ)
      → names_and_states (behind (codes "reach") words) ≡ Some (name, other, most)
      → files name ≡ Some text → files other ≡ Some second → Answers words files bytes Done
      → (spec : Data) × (order : Order) × Passes SPLIT_LIMIT text spec order × AreNeverBroken spec second
