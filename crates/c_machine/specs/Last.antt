-- The last place of a name.
use Rattle.std.specs.Prelude.{ℕ, suc, Bool, cond, List, [], ◌∷◌, Option, Some, None}
use Rattle.std.specs.Str.{bytes_eq}

abbrev pub behind_one : Bool → Option ℕ → Option ℕ
behind_one here None = cond here (Some 0) None
behind_one here (Some k) = Some (suc k)

-- the place of the last of the names that is this one
abbrev pub last_place : List (List ℕ) → List ℕ → Option ℕ
last_place [] name = None
last_place (m ∷ ms) name = behind_one (bytes_eq m name) (last_place ms name)
