-- How a search for the end of the first line went.
use Rattle.std.specs.Prelude.{◌≡◌, ◌≢◌, ℕ, ◌+◌, ◌<◌, ◌≤◌, List, [], ◌++◌, length, take, All, Option, IfSome}
use Rattle.std.specs.Io.KnownBytes.{IsAtEnd}
use Rattle.base.specs.Ends.{line_with_end}
use Rattle.base.specs.declared.limits.TheConstants.{LINE_LIMIT}
use Rattle.base_io.specs.declared.first_line.Sought.{Sought}
use Rattle.base_io.specs.declared.first_line.Sought.TheVariants.{Ended, TooFar, Unended, Nothing}

-- the first n bytes are the first line with its end
pub record IsFirstLine (room : ℕ) (bytes : List ℕ) (left : Option (List ℕ)) (n : ℕ) : Type 0 where
  pub some : 0 < n
  pub within : n ≤ length bytes
  pub fits : n ≤ room
  pub single : line_with_end (take n bytes) ≡ take n bytes
  pub first : IfSome left (λ more. line_with_end (bytes ++ more) ≡ take n bytes)

-- more bytes than a line may have are there, within the room, and none ends the line
pub record IsUnended (room : ℕ) (bytes : List ℕ) : Type 0 where
  pub many : LINE_LIMIT + 1 < length bytes
  pub fits : length bytes ≤ room
  pub none : All (λ b. b ≢ 10) bytes

-- what the answer of a search says of the bytes that are there and of what is left
abbrev pub Finds : ℕ → List ℕ → Option (List ℕ) → Sought → Type 0
Finds room bytes left (Ended n) = IsFirstLine room bytes left n
Finds room bytes left TooFar = IfSome left (λ more. room < length (line_with_end (bytes ++ more)))
Finds room bytes left Unended = IsUnended room bytes
Finds room bytes left Nothing = (bytes ≡ []) × IsAtEnd left
