-- What the first file makes of a command.
use Rattle.std.specs.Prelude.{ℕ, List, Option, IsTrue, ⊤}
use Rattle.cmd_work.specs.declared.status.Status.{Status}
use Rattle.cmd_work.specs.declared.two_files.First.{First}
use Rattle.cmd_work.specs.declared.two_files.First.TheVariants.{Answer, Base}
use Rattle.cmd_work.specs.Ends.{is_own}

-- The first file gives the whole answer, whatever the second one is; or the second file is reached, and what answers it
-- answers both.
abbrev pub IsFirst : {B : Type 0} → (Option (List ℕ) → List ℕ → Status → Type 0) → Type 0 → (B → Option (List ℕ) → List ℕ → Status → Type 0) → First B → Type 0
IsFirst answers reaches goes (Answer text status) = (second : Option (List ℕ)) → answers second text.items status
IsFirst answers reaches goes (Base base) = reaches × ((second : Option (List ℕ)) (bytes : List ℕ) (status : Status) → goes base second bytes status → answers second bytes status)

-- a whole answer has a status of its own
abbrev pub IsOwnFirst : {B : Type 0} → First B → Type 0
IsOwnFirst (Answer text status) = IsTrue (is_own status)
IsOwnFirst (Base base) = ⊤
