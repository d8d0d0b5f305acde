-- Which sort a side has, and which conditions are well typed.
use Rattle.std.specs.Prelude.{ℤ, pos, Bool, true, false, ◌&&◌, ◌||◌, if◌then◌else◌, List, [], ◌∷◌, Option, Some, None}
use Rattle.std.specs.Option.{option_map_or}
use Rattle.std.specs.Ordering.{int_eq}
use Rattle.std.specs.List.{list_all}
use Rattle.scr_spec.specs.Data.{Data}
use Rattle.scr_spec.specs.Sorts.{same_sort, is_sort, variable_sort}
use Rattle.scr_spec.specs.declared.sort.Sort.{Sort}
use Rattle.scr_spec.specs.declared.sort.Sort.TheVariants as sort
use Rattle.scr_spec.specs.declared.cond.Operand.{Operand}
use Rattle.scr_spec.specs.declared.cond.Operand.TheVariants.{One, Truth as Flag, Constant, Label, Variable, Primed}
use Rattle.scr_spec.specs.declared.cond.Item.{Item}
use Rattle.scr_spec.specs.declared.cond.Expr.{Expr}
use Rattle.scr_spec.specs.declared.cond.Cond.{Cond, fold-Cond}
use Rattle.scr_spec.specs.declared.cond.Cond.TheOpen.{Cond-F, Truth, Holds, Compare, Not, And, Or}
use Rattle.base.specs.declared.relation.Relation.{Relation}
use Rattle.base.specs.declared.relation.Relation.TheVariants.{Equal, Differ, Less, AtMost, Greater, AtLeast}

-- ---- sides

-- the sort of an operand, where it is one of the specification
abbrev pub operand_sort : Data → Operand → Option Sort
operand_sort spec One = Some sort.Integer
operand_sort spec (Flag b) = Some sort.Boolean
operand_sort spec (Constant k) = Some sort.Integer
operand_sort spec (Label owner code) = Some (sort.Labels owner)
operand_sort spec (Variable v) = variable_sort spec.types spec.variables v
operand_sort spec (Primed v) = variable_sort spec.types spec.variables v

-- one item of factor 1 has the sort of its operand
abbrev pub single_sort : {X : Type 0} → (X → ℤ) → (X → Option Sort) → List X → Option Sort
single_sort factor sort_of [] = None
single_sort factor sort_of (i ∷ []) = if int_eq (factor i) (pos 1) then sort_of i else None
single_sort factor sort_of (i ∷ j ∷ is) = None

-- a sum of integers is an integer; any other side is a single
abbrev pub sum_sort : {X : Type 0} → (X → ℤ) → (X → Option Sort) → List X → Option Sort
sum_sort factor sort_of is = if list_all (λ i. is_sort sort.Integer (sort_of i)) is then Some sort.Integer else single_sort factor sort_of is

-- the factor of an item
abbrev pub factor_of : Item → ℤ
factor_of item = item.factor

abbrev pub item_sort : Data → Item → Option Sort
item_sort spec item = operand_sort spec item.operand

-- the sort of a side that is well typed
abbrev pub side_sort : Data → Expr → Option Sort
side_sort spec e = sum_sort factor_of (item_sort spec) e.items

-- ---- conditions

abbrev pub is_equality : Relation → Bool
is_equality Equal = true
is_equality Differ = true
is_equality Less = false
is_equality AtMost = false
is_equality Greater = false
is_equality AtLeast = false

-- two integers, or two of another sort that are asked to be equal or different
abbrev pub are_comparable : Relation → Sort → Sort → Bool
are_comparable r s t = same_sort s t && (same_sort s sort.Integer || is_equality r)

-- the sorts of both sides are there, and are comparable
abbrev pub is_comparison : Relation → Option Sort → Option Sort → Bool
is_comparison r left right = option_map_or (λ s. option_map_or (are_comparable r s) right false) left false

-- from the tests of the parts
abbrev pub typed_step : Data → Cond-F Bool → Bool
typed_step spec (Truth b) = true
typed_step spec (Holds v) = is_sort sort.Boolean (variable_sort spec.types spec.variables v)
typed_step spec (Compare l r m) = is_comparison r (side_sort spec l) (side_sort spec m)
typed_step spec (Not t) = t
typed_step spec (And ts) = list_all (λ t. t) ts
typed_step spec (Or ts) = list_all (λ t. t) ts

-- each comparison of the condition is well typed, and each variable that holds is a Boolean
abbrev pub is_cond_typed : Data → Cond → Bool
is_cond_typed spec c = fold-Cond Bool (typed_step spec) c
