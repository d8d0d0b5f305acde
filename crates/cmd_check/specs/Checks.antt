-- What `check` answers for a file.
use Rattle.std.specs.Prelude.{ℕ, List, Option}
use Rattle.cmd_work.specs.declared.status.Status.{Status}
use Rattle.cmd_work.specs.Ends.{ByFile}
use Rattle.cmd_checked.specs.Reports.{ChecksText}

abbrev pub Checks : ℕ → Option (List ℕ) → List ℕ → Status → Type 0
Checks limit = ByFile (ChecksText limit)
