-- What words ask of `invariants`.
use Rattle.std.specs.Prelude.{ℕ, Bool, true, false, List, Option, codes}
use Rattle.cmd_work.specs.declared.status.Status.{Status}
use Rattle.cmd_work.specs.declared.status.Status.TheVariants.{Done, Undecided}
use Rattle.cmd_work.specs.Words.{behind}
use Rattle.cmd_work.specs.Work.{Asked, asked_by}
use Rattle.cmd_checked.specs.Words.{name_and_limit}
use Rattle.cmd_checked.specs.Offered.{IsThereWith, PassesWith, one_checked}
use Rattle.cmd_invariants.specs.Derives.{DerivesFile}
use Rattle.cmd_invariants.specs.Laws.{AreDecided}

-- each mode class is decided
abbrev pub IsDecidedFile : ℕ → Option (List ℕ) → Type 0
IsDecidedFile limit held = IsThereWith (PassesWith limit (λ spec order. AreDecided spec order.list limit)) held

abbrev pub may_end : Status → Bool
may_end Done = true
may_end Undecided = true
may_end status = false

abbrev pub asked_of : List (List ℕ) → Asked
asked_of words = asked_by (one_checked DerivesFile IsDecidedFile may_end) (name_and_limit (behind (codes "invariants") words))
