-- What reading a text gives a command.
use Rattle.std.specs.Prelude.{◌≡◌, ℕ, List}
use Rattle.scr_spec.specs.Shown.{data_of}
use Rattle.scr_resolve.specs.Texts.{Spells, Refusal, IsRefused}
use Rattle.cmd_report.specs.Faults.{refusal_text}
use Rattle.cmd_checked.specs.declared.spelling.Spelling.{Spelling}
use Rattle.cmd_checked.specs.declared.spelling.Spelling.TheVariants.{Right, Refused}

-- the text is refused, and this is the line on that
pub record IsRefusedWith (text line : List ℕ) : Type 0 where
  pub refusal : Refusal
  pub refused : IsRefused text refusal
  pub line_is : line ≡ refusal_text refusal

-- the specification that the text spells, or the line on why it spells none
abbrev pub IsSpelling : List ℕ → Spelling → Type 0
IsSpelling text (Right spec) = Spells text (data_of spec)
IsSpelling text (Refused line) = IsRefusedWith text line.items
