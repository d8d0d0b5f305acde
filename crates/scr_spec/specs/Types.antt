-- The rules on declared types, on the kinds of variables and on their bounds.
use Rattle.std.specs.Prelude.{ℕ, ◌-◌, ℤ, pos, ◌-ℤ◌, unsigned_abs, int_le, Bool, true, ◌&&◌, nat_lt, nat_le, List, [], length, is_some}
use Rattle.std.specs.Option.{option_map_or}
use Rattle.dd_formula.specs.declared.domain.Domain.{Domain}
use Rattle.base.specs.declared.limits.TheConstants.{NUMBER_LIMIT}
use Rattle.scr_spec.specs.declared.limits.TheConstants.{LABEL_LIMIT, RANGE_LIMIT}
use Rattle.scr_spec.specs.declared.spec.Shape.{Shape}
use Rattle.scr_spec.specs.declared.spec.Shape.TheVariants.{Range, Labels}
use Rattle.scr_spec.specs.declared.spec.TypeDef.{TypeDef}
use Rattle.scr_spec.specs.declared.spec.Kind.{Kind}
use Rattle.scr_spec.specs.declared.spec.Kind.TheVariants.{Boolean, Named, Modes}
use Rattle.scr_spec.specs.declared.spec.Variable.{Variable}
use Rattle.scr_spec.specs.Roles.{is_monitored_role}
use Rattle.scr_spec.specs.Sorts.{kind_range}

-- an integer of a specification is within the limit on numbers
abbrev pub is_narrow : ℤ → Bool
is_narrow z = nat_le (unsigned_abs z) NUMBER_LIMIT

-- at least one integer, and no more and no greater ones than may be
abbrev pub is_range_sound : Domain → Bool
is_range_sound d = is_narrow d.lo && is_narrow d.hi && int_le d.lo d.hi && int_le (d.hi -ℤ d.lo) (pos (RANGE_LIMIT - 1))

-- at least one name, and no more than may be
abbrev pub is_list_sound : List (List ℕ) → Bool
is_list_sound names = nat_le 1 (length names) && nat_le (length names) LABEL_LIMIT

-- at least one value, and within the limits
abbrev pub is_shape_sound : Shape → Bool
is_shape_sound (Range d) = is_range_sound d
is_shape_sound (Labels names) = is_list_sound names

-- the values of a `TYPE` line are within the limits
abbrev pub is_type_sound : TypeDef → Bool
is_type_sound t = is_shape_sound t.shape

-- a kind names a declared type, or lists its modes
abbrev pub is_kind_sound : List TypeDef → Kind → Bool
is_kind_sound types Boolean = true
is_kind_sound types (Named k) = nat_lt k (length types)
is_kind_sound types (Modes names) = is_list_sound names

-- the enumerators of a type; an integer type has none
abbrev pub shape_labels : Shape → List (List ℕ)
shape_labels (Range d) = []
shape_labels (Labels names) = names

-- the modes of a class; no other variable has modes
abbrev pub kind_modes : Kind → List (List ℕ)
kind_modes Boolean = []
kind_modes (Named k) = []
kind_modes (Modes names) = names

-- the values are integers
abbrev pub is_integer_kind : List TypeDef → Kind → Bool
is_integer_kind types kind = is_some (kind_range types kind)

-- a bound is at least 1 and within the limit on numbers, at a monitored variable whose values are integers
abbrev pub is_bound_sound : List TypeDef → Variable → Bool
is_bound_sound types x =
    option_map_or (λ k. is_monitored_role x.role && is_integer_kind types x.kind && int_le (pos 1) k && is_narrow k) x.bound true
