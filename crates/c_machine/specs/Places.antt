-- A map from names to where they stand in a list.
use Rattle.std.specs.Prelude.{◌≡◌, ℕ, List, Option}
use Rattle.std.specs.Option.{option_map}
use Rattle.std.specs.Str.{bytes_eq}
use Rattle.std.specs.Map.{lookup}
use Rattle.std.specs.declared.vec.Vec.{Vec}
use Rattle.std.specs.declared.alloc.Global.{Global}
use Rattle.c_subset.specs.Meaning.{place_of}
use Rattle.c_machine.specs.declared.places.Ends.{Ends}
use Rattle.c_machine.specs.Last.{last_place}

abbrev pub Entry : Type 0
Entry = (Vec ℕ Global) × Ends

-- what the map has at a name
abbrev pub ends_of : List Entry → List ℕ → Option Ends
ends_of entries name = lookup (λ (k : Vec ℕ Global). bytes_eq name k.items) entries

-- the map has the first and the last place of each name, and no other name
pub record HasEnds (names : List (List ℕ)) (entries : List Entry) : Type 0 where
  pub first : (name : List ℕ) → option_map (λ e. e.first) (ends_of entries name) ≡ place_of names name
  pub last : (name : List ℕ) → option_map (λ e. e.last) (ends_of entries name) ≡ last_place names name
