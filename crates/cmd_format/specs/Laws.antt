-- The law of formatting.
use Rattle.std.specs.Prelude.{◌≡◌, ℕ, List, []}
use Rattle.scr_spec.specs.Data.{Data}
use Rattle.scr_resolve.specs.Texts.{Spells}
use Rattle.scr_roundtrip.specs.Laws.{PassesNoLimit, IsCanonical}
use Rattle.cmd_work.specs.declared.status.Status.{Status}
use Rattle.cmd_work.specs.declared.status.Status.TheVariants.{Done}
use Rattle.cmd_work.specs.Ends.{IsFront}
use Rattle.cmd_format.specs.Formats.{FormatsText}

pub record OneFormatting : Type 0 where
  -- a text has one answer, and never none
  pub once : (text x y : List ℕ) (i j : Status) → FormatsText text x i → FormatsText text y j → (x ≡ y) × (i ≡ j)
  pub some : (text : List ℕ) → IsFront (FormatsText text) []
  -- what is formatted spells what the text spells, and no other, and stays as it is
  pub same : (text out : List ℕ) → FormatsText text out Done → PassesNoLimit out → (spec : Data) → Spells text spec → IsCanonical out spec
