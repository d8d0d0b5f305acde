-- What the declared names stand for is there.
use Rattle.std.proofs.Common.{◌≡◌, Bool, true, false, if◌then◌else◌, [], ◌∷◌, pos, length, Some, refl}
use Rattle.std.specs.Prelude.{nat_lt}
use Rattle.std.specs.Option.{option_map_or}
use Rattle.std.specs.List.{list_all}
use Rattle.std.specs.Str.{bytes_eq}
use Rattle.std.proofs.lemmas.Bool.{and_parts}
use Rattle.scr_spec.specs.Data.{Data}
use Rattle.scr_spec.specs.Over.{labels_of, is_place}
use Rattle.scr_scope.specs.declared.meaning.Meaning.{Meaning}
use Rattle.scr_scope.specs.declared.meaning.Meaning.TheVariants as m
use Rattle.scr_scope.specs.declared.known.Known.{Known}
use Rattle.scr_scope.specs.Names.{Name, NameList, meaning_of}
use Rattle.scr_scope.specs.Meanings.{seen, meant}

-- the type, constant, label or variable is there
abbrev pub is_there : Data → Meaning → Bool
is_there spec (m.Type k) = nat_lt k (length spec.types)
is_there spec (m.Constant k) = nat_lt k (length spec.constants)
is_there spec (m.Label owner place) = is_place (labels_of spec owner) (pos place)
is_there spec (m.Variable v) = nat_lt v (length spec.variables)

abbrev pub are_there : Data → NameList → Bool
are_there spec names = list_all (λ e. is_there spec e.1) names

-- what each declared name stands for is
abbrev pub NamesThere : Known → Type 0
NamesThere known = are_there (seen known) known.names ≡ true

found_there : (spec : Data) (names : NameList) (n : Name) → are_there spec names ≡ true → option_map_or (is_there spec) (meaning_of names n) true ≡ true
found_there spec [] n h = refl
found_there spec (e ∷ es) n h =
    let p = and_parts (is_there spec e.1) (are_there spec es) h in
    by (bytes_eq n e.0) (p.0) (found_there spec es n (p.1))
  where
    by : (b : Bool) → is_there spec e.1 ≡ true → option_map_or (is_there spec) (meaning_of es n) true ≡ true
        → option_map_or (is_there spec) (if b then Some e.1 else meaning_of es n) true ≡ true
    by true first rest = first
    by false first rest = rest

pub meant_there : (known : Known) → NamesThere known → (n : Name) → option_map_or (is_there (seen known)) (meant known n) true ≡ true
meant_there known there n = found_there (seen known) known.names n there
