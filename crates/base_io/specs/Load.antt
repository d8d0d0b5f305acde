-- What reading a whole file may answer.
use Rattle.std.specs.Prelude.{◌≡◌, ◌<◌, ℕ, ⊤, List, length, take, Option, IfSome}
use Rattle.base_io.specs.declared.whole.LoadFault.{LoadFault}
use Rattle.base_io.specs.declared.whole.LoadFault.TheVariants.{Read, TooLong, NoMemory}

-- a fact of the bytes that a file above the limit begins with
abbrev pub IfTooLong : (List ℕ → Type 0) → LoadFault → Type 0
IfTooLong P Read = ⊤
IfTooLong P (TooLong bytes) = P bytes.items
IfTooLong P NoMemory = ⊤

-- these are the first `limit` bytes of more that were left
pub record IsBeginning (limit : ℕ) (left : Option (List ℕ)) (bytes : List ℕ) : Type 0 where
  pub full : length bytes ≡ limit
  pub more : IfSome left (λ all. limit < length all)
  pub first : IfSome left (λ all. bytes ≡ take limit all)
