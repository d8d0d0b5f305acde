-- What `format` answers.
use Rattle.std.specs.Prelude.{ℕ, List, Option}
use Rattle.scr_spec.specs.Data.{Data}
use Rattle.scr_resolve.specs.Texts.{Spells, Refusal, IsRefused}
use Rattle.scr_printer.specs.Text.{canonical}
use Rattle.cmd_report.specs.Faults.{refusal_text}
use Rattle.cmd_work.specs.declared.status.Status.{Status}
use Rattle.cmd_work.specs.declared.status.Status.TheVariants.{Done, SpecRefused}
use Rattle.cmd_work.specs.Ends.{ByFile}

-- of a text: the canonical text of the specification that it spells, or the line on what is wrong with it
pub data FormatsText : List ℕ → List ℕ → Status → Type 0 where
  formatted : {text : List ℕ} (spec : Data) → Spells text spec → FormatsText text (canonical spec) Done
  refused : {text : List ℕ} (refusal : Refusal) → IsRefused text refusal → FormatsText text (refusal_text refusal) SpecRefused

-- of a file, if it is there
abbrev pub Formats : Option (List ℕ) → List ℕ → Status → Type 0
Formats = ByFile FormatsText
