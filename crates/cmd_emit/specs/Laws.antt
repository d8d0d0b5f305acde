-- The law of emitted units.
use Rattle.std.specs.Prelude.{◌≡◌, ℕ, List, [], Option}
use Rattle.scr_spec.specs.Data.{Data}
use Rattle.scr_resolve.specs.Texts.{Spells}
use Rattle.scr_depend.specs.declared.order.Order.{Order}
use Rattle.cmd_work.specs.declared.status.Status.{Status}
use Rattle.cmd_work.specs.declared.status.Status.TheVariants.{Done}
use Rattle.cmd_work.specs.Ends.{IsFront}
use Rattle.cmd_checked.specs.Checking.{Passes}
use Rattle.cmd_emit.specs.Emits.{EmitsText, Emits, IsRightText}

pub record OneEmission : Type 0 where
  -- a file has one answer, and never none
  pub once : (limit : ℕ) (held : Option (List ℕ)) (x y : List ℕ) (i j : Status) → Emits limit held x i → Emits limit held y j → (x ≡ y) × (i ≡ j)
  pub some : (limit : ℕ) (held : Option (List ℕ)) → IsFront (Emits limit held) []
  -- with `Done` the text spells a specification that passes
  pub passes : (limit : ℕ) (text out : List ℕ) → EmitsText limit text out Done → (spec : Data) × (order : Order) × Passes limit text spec order
  -- and what is answered is right for the one that it spells
  pub right : (limit : ℕ) (text out : List ℕ) → EmitsText limit text out Done → (spec : Data) → Spells text spec → IsRightText spec out
