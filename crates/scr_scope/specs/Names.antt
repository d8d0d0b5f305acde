-- The names that the lines so far declare, each with what it stands for. There is one space of names.
use Rattle.std.specs.Prelude.{ℕ, Bool, if◌then◌else◌, List, [], ◌∷◌, ◌++◌, map, Option, Some, None, is_some}
use Rattle.std.specs.Str.{bytes_eq}
use Rattle.std.specs.declared.vec.Vec.{Vec}
use Rattle.std.specs.declared.alloc.Global.{Global}
use Rattle.scr_scope.specs.declared.meaning.Meaning.{Meaning}

abbrev pub Name : Type 0
Name = List ℕ

abbrev pub NameList : Type 0
NameList = List (Name × Meaning)

-- an entry of a map by bytes
abbrev pub entry_of : (Vec ℕ Global) × Meaning → Name × Meaning
entry_of e = (e.0.items, e.1)

abbrev pub entries_of : List ((Vec ℕ Global) × Meaning) → NameList
entries_of es = map entry_of es

-- what a name stands for, where it is declared
abbrev pub meaning_of : NameList → Name → Option Meaning
meaning_of [] n = None
meaning_of (e ∷ es) n = if bytes_eq n e.0 then Some e.1 else meaning_of es n

abbrev pub is_known : NameList → Name → Bool
is_known names n = is_some (meaning_of names n)

-- a name that is declared keeps its meaning
abbrev pub with_name : NameList → Name → Meaning → NameList
with_name names n m = if is_known names n then names else names ++ (n, m) ∷ []
