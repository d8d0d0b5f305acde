-- Sorts of values, and what stands at a number in the lists of a specification.
use Rattle.std.specs.Prelude.{ℕ, ℤ, pos, Bool, true, false, nat_eq, List, Option, Some, None, slice_get}
use Rattle.std.specs.Option.{option_map_or, option_and_then, option_map}
use Rattle.scr_spec.specs.declared.cond.Owner.{Owner}
use Rattle.scr_spec.specs.declared.cond.Owner.TheVariants as owner
use Rattle.scr_spec.specs.declared.sort.Sort.{Sort}
use Rattle.scr_spec.specs.declared.sort.Sort.TheVariants as sort
use Rattle.dd_formula.specs.declared.domain.Domain.{Domain}
use Rattle.scr_spec.specs.declared.spec.Shape.{Shape}
use Rattle.scr_spec.specs.declared.spec.Shape.TheVariants.{Range, Labels}
use Rattle.scr_spec.specs.declared.spec.TypeDef.{TypeDef}
use Rattle.scr_spec.specs.declared.spec.Constant.{Constant}
use Rattle.scr_spec.specs.declared.spec.Kind.{Kind}
use Rattle.scr_spec.specs.declared.spec.Kind.TheVariants.{Boolean, Named, Modes}
use Rattle.scr_spec.specs.declared.spec.Variable.{Variable}

-- labels of the same list
abbrev pub same_owner : Owner → Owner → Bool
same_owner (owner.Named j) (owner.Named k) = nat_eq j k
same_owner (owner.Named j) (owner.Class k) = false
same_owner (owner.Class j) (owner.Named k) = false
same_owner (owner.Class j) (owner.Class k) = nat_eq j k

-- values that may be compared
abbrev pub same_sort : Sort → Sort → Bool
same_sort sort.Integer sort.Integer = true
same_sort sort.Integer sort.Boolean = false
same_sort sort.Integer (sort.Labels p) = false
same_sort sort.Boolean sort.Integer = false
same_sort sort.Boolean sort.Boolean = true
same_sort sort.Boolean (sort.Labels p) = false
same_sort (sort.Labels o) sort.Integer = false
same_sort (sort.Labels o) sort.Boolean = false
same_sort (sort.Labels o) (sort.Labels p) = same_owner o p

-- whether what may have a sort has this one
abbrev pub is_sort : Sort → Option Sort → Bool
is_sort s o = option_map_or (same_sort s) o false

-- ---- types

-- the range of a type of integers
abbrev pub shape_range : Shape → Option Domain
shape_range (Range d) = Some d
shape_range (Labels names) = None

-- the range of the type with this number, where it is one of integers
abbrev pub type_range : List TypeDef → ℕ → Option Domain
type_range types k = option_and_then (λ t. shape_range t.shape) (slice_get types k)

-- the sort of its values
abbrev pub type_sort : List TypeDef → ℕ → Sort
type_sort types k = option_map_or (λ d. sort.Integer) (type_range types k) (sort.Labels (owner.Named k))

-- ---- variables

-- the sort of the values of the variable with this number and this kind
abbrev pub kind_sort : List TypeDef → ℕ → Kind → Sort
kind_sort types v Boolean = sort.Boolean
kind_sort types v (Named k) = type_sort types k
kind_sort types v (Modes names) = sort.Labels (owner.Class v)

-- the sort of the variable with this number
abbrev pub variable_sort : List TypeDef → List Variable → ℕ → Option Sort
variable_sort types variables v = option_map (λ x. kind_sort types v x.kind) (slice_get variables v)

-- the range of a kind, where its values are integers
abbrev pub kind_range : List TypeDef → Kind → Option Domain
kind_range types Boolean = None
kind_range types (Named k) = type_range types k
kind_range types (Modes names) = None

-- the range of the variable with this number, where its values are integers
abbrev pub variable_range : List TypeDef → List Variable → ℕ → Option Domain
variable_range types variables v = option_and_then (λ x. kind_range types x.kind) (slice_get variables v)

-- ---- constants

-- the value of the constant with this number
abbrev pub constant_at : List Constant → ℕ → ℤ
constant_at constants k = option_map_or (λ c. c.value) (slice_get constants k) (pos 0)
