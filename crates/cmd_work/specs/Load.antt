-- A file that was read whole, or is above a limit.
use Rattle.std.specs.Prelude.{◌≡◌, ◌<◌, ◌≤◌, ℕ, List, length, Option, Some}
use Rattle.cmd_work.specs.declared.whole.Loaded.{Loaded}
use Rattle.cmd_work.specs.declared.whole.Loaded.TheVariants.{Whole, TooLong}

-- the file is there, and was read whole where it is within the limit
abbrev pub IsLoaded : ℕ → Option (List ℕ) → Loaded → Type 0
IsLoaded limit file (Whole bytes) = (file ≡ Some bytes.items) × (length bytes.items ≤ limit)
IsLoaded limit file TooLong = (text : List ℕ) × (file ≡ Some text) × (limit < length text)
