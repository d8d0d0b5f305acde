-- What words ask of `format`.
use Rattle.std.specs.Prelude.{◌≡◌, ℕ, List, Option, Some, codes}
use Rattle.scr_spec.specs.Data.{Data}
use Rattle.scr_resolve.specs.Texts.{Spells}
use Rattle.cmd_work.specs.Words.{behind, only_word}
use Rattle.cmd_work.specs.Work.{Task, by_one, Asked, asked_by, only_done}
use Rattle.cmd_format.specs.Formats.{Formats}

-- the text spells a specification
abbrev pub IsSpelled : Option (List ℕ) → Type 0
IsSpelled held = (text : List ℕ) × (spec : Data) × (held ≡ Some text) × Spells text spec

abbrev pub task_of : List ℕ → Task
task_of name = record {
  work = by_one name Formats;
  IsAccepted = λ files. IsSpelled (files name);
  IsFaultless = λ files. IsSpelled (files name);
  may_end = only_done;
}

abbrev pub asked_of : List (List ℕ) → Asked
asked_of words = asked_by task_of (only_word (behind (codes "format") words))
