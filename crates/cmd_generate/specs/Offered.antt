-- What words ask of `generate`.
use Rattle.std.specs.Prelude.{◌≡◌, ⊤, ℕ, List, codes}
use Rattle.cmd_work.specs.declared.status.Status.{Status}
use Rattle.cmd_work.specs.declared.status.Status.TheVariants.{Done}
use Rattle.cmd_work.specs.Words.{behind}
use Rattle.cmd_work.specs.Work.{Task, at_once, Asked, asked_by, only_done}
use Rattle.cmd_generate.specs.Chain.{chain_text}
use Rattle.cmd_generate.specs.Words.{last_latch}

-- the text of the chain
abbrev pub Generates : ℕ → List ℕ → Status → Type 0
Generates last bytes status = (bytes ≡ chain_text last) × (status ≡ Done)

abbrev pub task_of : ℕ → Task
task_of last = record {
  work = at_once (Generates last);
  IsAccepted = λ files. ⊤;
  IsFaultless = λ files. ⊤;
  may_end = only_done;
}

abbrev pub asked_of : List (List ℕ) → Asked
asked_of words = asked_by task_of (last_latch (behind (codes "generate") words))
