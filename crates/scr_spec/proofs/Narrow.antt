-- Each code of a variable is from -1,000,000 to 1,000,000.
use Rattle.std.proofs.Common.{◌≡◌, ℕ, ◌≤◌, pos, ◌-ℤ◌, ◌&&◌, List, length, Option, Some, None, refl, arith, IsTrue}
use Rattle.std.specs.Prelude.{unsigned_abs, int_le, nat_le, slice_get, max}
use Rattle.std.specs.Option.{option_map_or}
use Rattle.std.specs.List.{list_all}
use Rattle.std.proofs.lemmas.Bool.{and_parts, leb-true}
use Rattle.std.proofs.lemmas.Int.{ints}
use Rattle.dd_formula.specs.declared.domain.Domain.{Domain}
use Rattle.scr_spec.specs.declared.spec.Shape.{Shape}
use Rattle.scr_spec.specs.declared.spec.Shape.TheVariants.{Range, Labels}
use Rattle.scr_spec.specs.declared.spec.TypeDef.{TypeDef}
use Rattle.scr_spec.specs.declared.spec.Kind.{Kind}
use Rattle.scr_spec.specs.declared.spec.Kind.TheVariants.{Boolean, Named, Modes}
use Rattle.scr_spec.specs.declared.spec.Variable.{Variable}
use Rattle.scr_spec.specs.Data.{Data}
use Rattle.scr_spec.specs.Sound.{IsSound}
use Rattle.scr_spec.specs.Types.{is_narrow, is_range_sound, is_list_sound, is_shape_sound, is_type_sound, is_kind_sound}
use Rattle.scr_spec.specs.Domains.{list_domain, shape_domain, kind_domain, no_domain}
use Rattle.dd_formula.specs.Domains.{domain_bound}
use Rattle.scr_spec.specs.Over.{variable_bound}
use Rattle.scr_spec.proofs.Lookup.{all_get}

-- the places in a short list
places_narrow : (n : ℕ) → n ≤ 64 → max 0 (unsigned_abs (pos n -ℤ pos 1)) ≤ 1000000
places_narrow n h = grind (arith, ints)

-- a list of names
list_narrow : (names : List (List ℕ)) → IsTrue (is_list_sound names) → domain_bound (list_domain names) ≤ 1000000
list_narrow names h = places_narrow (length names) (leb-true _ _ ((and_parts (nat_le 1 (length names)) (nat_le (length names) 64) h).1))

-- the greater of two ends
ends_narrow : (a b : ℕ) → a ≤ 1000000 → b ≤ 1000000 → max a b ≤ 1000000
ends_narrow a b h k = omega arith

-- a range of integers
range_narrow : (d : Domain) → IsTrue (is_range_sound d) → domain_bound d ≤ 1000000
range_narrow d h =
    let values = int_le (d.hi -ℤ d.lo) (pos 8191) in
    let order = int_le d.lo d.hi in
    let three = (and_parts (is_narrow d.lo && is_narrow d.hi && order) values h).0 in
    let both = (and_parts (is_narrow d.lo && is_narrow d.hi) order three).0 in
    let ends = and_parts (is_narrow d.lo) (is_narrow d.hi) both in
    ends_narrow _ _ (leb-true _ _ (ends.0)) (leb-true _ _ (ends.1))

-- the values of a type
shape_narrow : (s : Shape) → IsTrue (is_shape_sound s) → domain_bound (shape_domain s) ≤ 1000000
shape_narrow (Range d) h = range_narrow d h
shape_narrow (Labels names) h = list_narrow names h

-- a type that is looked up
type_narrow : (types : List TypeDef) (k : ℕ) (o : Option TypeDef) → slice_get types k ≡ o → IsTrue (list_all is_type_sound types)
    → domain_bound (option_map_or (λ t. shape_domain t.shape) o no_domain) ≤ 1000000
type_narrow types k None e h = omega arith
type_narrow types k (Some t) e h = shape_narrow t.shape (all_get is_type_sound types k t h e)

-- a kind of variable
kind_narrow : (types : List TypeDef) (kind : Kind) → IsTrue (list_all is_type_sound types) → IsTrue (is_kind_sound types kind) → domain_bound (kind_domain types kind) ≤ 1000000
kind_narrow types Boolean h k = omega arith
kind_narrow types (Named n) h k = type_narrow types n (slice_get types n) refl h
kind_narrow types (Modes names) h k = list_narrow names k

-- a variable that is looked up
found_narrow : (spec : Data) → IsSound spec → (v : ℕ) (o : Option Variable) → slice_get spec.variables v ≡ o
    → domain_bound (option_map_or (λ x. kind_domain spec.types x.kind) o no_domain) ≤ 1000000
found_narrow spec sound v None e = omega arith
found_narrow spec sound v (Some x) e =
    kind_narrow spec.types x.kind sound.types (all_get (λ x. is_kind_sound spec.types x.kind) spec.variables v x sound.kinds e)

-- the greatest absolute code of a variable
pub variable_narrow : (spec : Data) → IsSound spec → (v : ℕ) → variable_bound spec v ≤ 1000000
variable_narrow spec sound v = found_narrow spec sound v (slice_get spec.variables v) refl
