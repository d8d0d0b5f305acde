-- What an assertion without a fault keeps, and the names of assertions.
use Rattle.std.proofs.Common.{◌≡◌, Bool, true, false, List, [], ◌∷◌, map, Option, Some, None, refl, ap}
use Rattle.std.specs.Prelude.{◌||◌}
use Rattle.std.specs.Option.{option_or, option_map}
use Rattle.std.specs.List.{list_any}
use Rattle.std.specs.Str.{bytes_eq}
use Rattle.scr_parse.specs.declared.draft.DraftAssertion.{DraftAssertion}
use Rattle.scr_scope.specs.declared.known.Known.{Known}
use Rattle.scr_scope.specs.Names.{Name}
use Rattle.scr_scope.specs.First.{unless}
use Rattle.scr_scope.specs.Conditions.{is_narrow_cond}
use Rattle.scr_resolve.specs.declared.fault.TypeKind.TheVariants as k
use Rattle.scr_resolve.specs.Lines.{as_kind}
use Rattle.scr_resolve_asserts.specs.declared.assertion.Assertion.{Assertion}
use Rattle.scr_resolve_asserts.specs.Resolution.{duplicate_in, unknown_in, ill_in, wide_in, fault_in}

-- ---- none of several

pub or_none : {X : Type 0} (a b : Option X) → option_or a b ≡ None → (a ≡ None) × (b ≡ None)
or_none None b h = (refl, h)
or_none (Some x) b h = absurd (cc)

pub map_none : {X Y : Type 0} (f : X → Y) (o : Option X) → option_map f o ≡ None → o ≡ None
map_none f None h = refl
map_none f (Some x) h = absurd (cc)

unless_none : {Y : Type 0} (right : Bool) (y : Y) → unless right y ≡ None → right ≡ true
unless_none true y h = refl
unless_none false y h = absurd (cc)

-- the bounds of an assertion without a fault are within the limit
pub narrow_of : (known : Known) (earlier : List Name) (a : DraftAssertion) → fault_in known earlier a ≡ None → is_narrow_cond known a.cond ≡ true
unfolding fault_in
narrow_of known earlier a h =
    let one = or_none (as_kind k.Duplicate (duplicate_in known earlier a)) _ h in
    let two = or_none (as_kind k.Unknown (unknown_in known a)) _ (one.1) in
    let three = or_none (as_kind k.Kind (ill_in known a)) _ (two.1) in
    unless_none (is_narrow_cond known a.cond) a.name (map_none (λ n. (k.Wide, n)) (wide_in known a) (three.1))

-- ---- names of assertions

pub any_named : (n : Name) (assertions : List Assertion) → list_any (bytes_eq n) (map (λ a. a.name) assertions) ≡ list_any (λ a. bytes_eq n a.name) assertions
any_named n [] = refl
any_named n (a ∷ more) = ap (λ t. bytes_eq n a.name || t) (any_named n more)
