-- What words ask of `check`.
use Rattle.std.specs.Prelude.{ℕ, List, codes}
use Rattle.cmd_work.specs.Words.{behind}
use Rattle.cmd_work.specs.Work.{Asked, asked_by, only_done}
use Rattle.cmd_checked.specs.Checking.{ReachesScript}
use Rattle.cmd_checked.specs.Words.{name_and_limit}
use Rattle.cmd_checked.specs.Offered.{one_checked}
use Rattle.cmd_check.specs.Checks.{Checks}

abbrev pub asked_of : List (List ℕ) → Asked
asked_of words = asked_by (one_checked Checks ReachesScript only_done) (name_and_limit (behind (codes "check") words))
