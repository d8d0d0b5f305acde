-- What is kept of the items that were read.
use Rattle.std.specs.Prelude.{◌≡◌, ℕ, List, [], ◌∷◌, ◌++◌, map, Option}
use Rattle.std.specs.Option.{option_to_list}
use Rattle.std.specs.declared.vec.Vec.{Vec}
use Rattle.std.specs.declared.alloc.Global.{Global}
use Rattle.c_subset.specs.Names.{is_among}
use Rattle.c_subset.specs.Scope.{Known, Scope}
use Rattle.c_reader.specs.declared.declared.Declared.{Declared}
use Rattle.c_reader.specs.declared.declared.Signature.{Signature}

abbrev pub name_of : Vec ℕ Global → List ℕ
name_of key = key.items

abbrev pub known_by : (Vec ℕ Global) × Signature → Known
known_by entry = record { name = entry.0.items; takes = entry.1.takes; weight = entry.1.weight; depth = entry.1.depth }

abbrev pub signature_of : Known → Signature
signature_of f = record { takes = f.takes; weight = f.weight; depth = f.depth }

-- what the kept names and functions declare; each name of a parameter stands there once
abbrev pub scope_of : Declared → Scope
scope_of d = record { objects = map name_of d.objects.keys; functions = map known_by d.functions.entries; parameters = map name_of d.parameters.keys }

-- the same objects and functions, and the same names of parameters, however often
pub record Like (a b : Scope) : Type 0 where
  pub objects : a.objects ≡ b.objects
  pub functions : a.functions ≡ b.functions
  pub parameters : (n : List ℕ) → is_among a.parameters n ≡ is_among b.parameters n

abbrev pub known_named : List ℕ → Signature → Known
known_named n signature = record { name = n; takes = signature.takes; weight = signature.weight; depth = signature.depth }

-- with one more name of each sort
abbrev pub with_object : Scope → List ℕ → Scope
with_object scope n = record { objects = scope.objects ++ n ∷ []; functions = scope.functions; parameters = scope.parameters }

abbrev pub with_function : Scope → List ℕ → Signature → Scope
with_function scope n signature = record { objects = scope.objects; functions = scope.functions ++ known_named n signature ∷ []; parameters = scope.parameters }

abbrev pub with_parameter : Scope → Option (List ℕ) → Scope
with_parameter scope parameter = record { objects = scope.objects; functions = scope.functions; parameters = scope.parameters ++ option_to_list parameter }
