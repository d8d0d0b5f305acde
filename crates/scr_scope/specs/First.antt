-- The first name that breaks a rule.
use Rattle.std.specs.Prelude.{Bool, List, [], ◌∷◌, ◌++◌, ◌||◌, if◌then◌else◌, Option, Some, None}
use Rattle.std.specs.Option.{option_or}
use Rattle.std.specs.List.{list_any}
use Rattle.std.specs.Str.{bytes_eq}
use Rattle.scr_scope.specs.Names.{Name, NameList, is_known}

-- the first that one of the items gives
abbrev pub first_in : {X Y : Type 0} → (X → Option Y) → List X → Option Y
first_in f [] = None
first_in f (x ∷ xs) = option_or (f x) (first_in f xs)

-- this one, unless that is right
abbrev pub unless : {Y : Type 0} → Bool → Y → Option Y
unless right y = if right then None else Some y

-- the first of the names that is declared, or stands before it on the line
abbrev pub first_again : NameList → List Name → List Name → Option Name
first_again names before [] = None
first_again names before (n ∷ ns) = if is_known names n || list_any (bytes_eq n) before then Some n else first_again names (before ++ n ∷ []) ns
