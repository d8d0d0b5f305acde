-- The law of checking.
use Rattle.std.specs.Prelude.{◌≡◌, ℕ, List, []}
use Rattle.scr_spec.specs.Data.{Data}
use Rattle.scr_spec.specs.Sound.{IsSound}
use Rattle.scr_resolve.specs.Texts.{Spells}
use Rattle.scr_depend.specs.declared.order.Order.{Order}
use Rattle.scr_depend.specs.Meets.{AreRight}
use Rattle.cmd_work.specs.declared.status.Status.{Status}
use Rattle.cmd_work.specs.declared.status.Status.TheVariants.{Done}
use Rattle.cmd_work.specs.Ends.{IsFront}
use Rattle.cmd_checked.specs.Reports.{ChecksText, passed_text}
use Rattle.cmd_checked.specs.Checking.{Passes}
use Rattle.cmd_checked.specs.Tells.{TellsRight}

pub record OneChecking : Type 0 where
  -- a text has one report, and never none
  pub once : (limit : ℕ) (text x y : List ℕ) (i j : Status) → ChecksText limit text x i → ChecksText limit text y j → (x ≡ y) × (i ≡ j)
  pub some : (limit : ℕ) (text : List ℕ) → IsFront (ChecksText limit text) []
  -- it passes exactly where that report ends with `Done`
  pub passes : (limit : ℕ) (text bytes : List ℕ) → ChecksText limit text bytes Done → (spec : Data) × (order : Order) × Passes limit text spec order
  pub done : (limit : ℕ) (text : List ℕ) (spec : Data) (order : Order) → Passes limit text spec order → ChecksText limit text (passed_text spec order.list) Done
  -- then it spells one specification, which keeps all rules, and whose tables are right
  pub one_spec : (limit : ℕ) (text : List ℕ) (a b : Data) (o p : Order) → Passes limit text a o → Passes limit text b p → a ≡ b
  pub sound : (limit : ℕ) (text : List ℕ) (spec : Data) (order : Order) → Passes limit text spec order → IsSound spec
  pub right : (limit : ℕ) (text : List ℕ) (spec : Data) (order : Order) → Passes limit text spec order → AreRight spec
  -- each line of a report on the specification that the text spells is right
  pub tells : (limit : ℕ) (text bytes : List ℕ) (status : Status) (spec : Data) → Spells text spec → ChecksText limit text bytes status → TellsRight spec bytes status
