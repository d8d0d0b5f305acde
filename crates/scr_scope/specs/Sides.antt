-- Sides: the first unknown name, the sort, the bound, the value, and what they resolve to.
use Rattle.std.specs.Prelude.{ℕ, ℤ, Bool, true, false, not, ◌&&◌, ◌||◌, nat_le, List, [], map, Option, Some, None, unwrap_or}
use Rattle.std.specs.Option.{option_map, option_map_or, option_and_then}
use Rattle.std.specs.List.{list_any}
use Rattle.scr_spec.specs.declared.limits.TheConstants.{SIDE_LIMIT}
use Rattle.scr_spec.specs.declared.cond.Operand.{Operand}
use Rattle.scr_spec.specs.declared.cond.Operand.TheVariants as made
use Rattle.scr_spec.specs.declared.cond.Item.{Item}
use Rattle.scr_spec.specs.declared.cond.Expr.{Expr}
use Rattle.scr_spec.specs.declared.sort.Sort.{Sort}
use Rattle.scr_spec.specs.declared.sort.Sort.TheVariants as sort
use Rattle.scr_spec.specs.declared.table.Heading.{Heading}
use Rattle.scr_spec.specs.declared.table.Heading.TheVariants as heading
use Rattle.scr_spec.specs.declared.spec.Constant.{Constant}
use Rattle.dd_formula.specs.Domains.{is_within}
use Rattle.scr_spec.specs.Meaning.{side_value}
use Rattle.scr_spec.specs.Over.{item_bound, side_bound}
use Rattle.scr_spec.specs.Sorts.{is_sort, variable_sort, variable_range}
use Rattle.scr_spec.specs.Typed.{operand_sort, sum_sort}
use Rattle.scr_spec.specs.Types.{is_narrow}
use Rattle.scr_parse.specs.declared.draft.DraftOperand.{DraftOperand}
use Rattle.scr_parse.specs.declared.draft.DraftOperand.TheVariants.{One, Truth, Plain, Primed}
use Rattle.scr_parse.specs.declared.draft.DraftItem.{DraftItem}
use Rattle.scr_parse.specs.declared.draft.DraftSide.{DraftSide}
use Rattle.scr_scope.specs.declared.known.Known.{Known}
use Rattle.scr_scope.specs.Names.{Name}
use Rattle.scr_scope.specs.First.{first_in}
use Rattle.scr_scope.specs.Meanings.{seen, meant, unknown, operand_meant, variable_named, is_variable}

-- ---- names

abbrev pub unknown_operand : Known → DraftOperand → Option Name
unknown_operand known One = None
unknown_operand known (Truth b) = None
unknown_operand known (Plain n) = unknown known n
unknown_operand known (Primed n) = unknown known n

abbrev pub unknown_item : Known → DraftItem → Option Name
unknown_item known item = unknown_operand known item.operand

abbrev pub unknown_side : Known → DraftSide → Option Name
unknown_side known side = first_in (unknown_item known) side.items

-- ---- what they resolve to

-- a type stands for no operand, and only a variable has a primed name
abbrev pub operand_named : Known → DraftOperand → Option Operand
operand_named known One = Some made.One
operand_named known (Truth b) = Some (made.Truth b)
operand_named known (Plain n) = option_and_then operand_meant (meant known n)
operand_named known (Primed n) = option_map made.Primed (variable_named known n)

-- what stands for no operand counts as One
abbrev pub or_one : Option Operand → Operand
or_one operand = unwrap_or operand made.One

abbrev pub operand_of : Known → DraftOperand → Operand
operand_of known operand = or_one (operand_named known operand)

abbrev pub item_of : Known → DraftItem → Item
item_of known item = record { factor = item.factor; operand = operand_of known item.operand }

abbrev pub side_of : Known → DraftSide → Expr
side_of known side = record { items = map (item_of known) side.items }

-- ---- types

abbrev pub draft_factor : DraftItem → ℤ
draft_factor item = item.factor

abbrev pub draft_item_sort : Known → DraftItem → Option Sort
draft_item_sort known item = option_and_then (operand_sort (seen known)) (operand_named known item.operand)

abbrev pub is_integer_item : Known → DraftItem → Bool
is_integer_item known item = is_sort sort.Integer (draft_item_sort known item)

-- the sort of a side that is well typed
abbrev pub draft_sort : Known → DraftSide → Option Sort
draft_sort known side = sum_sort draft_factor (draft_item_sort known) side.items

-- ---- bounds

abbrev pub draft_item_bound : Known → DraftItem → ℕ
draft_item_bound known item = item_bound (seen known) (item_of known item)

-- the bound is within the limit
abbrev pub is_narrow_side : Known → DraftSide → Bool
is_narrow_side known side = nat_le (side_bound (seen known) (side_of known side)) SIDE_LIMIT

-- ---- values of a table

abbrev pub is_primed_operand : DraftOperand → Bool
is_primed_operand One = false
is_primed_operand (Truth b) = false
is_primed_operand (Plain n) = false
is_primed_operand (Primed n) = true

abbrev pub is_primed : DraftItem → Bool
is_primed item = is_primed_operand item.operand

-- no value of a CONDITION table has a primed name
abbrev pub takes_primes : Heading → Bool
takes_primes heading.Condition = false
takes_primes heading.Event = true
takes_primes heading.Modes = true

abbrev pub sort_of_variable : Known → ℕ → Option Sort
sort_of_variable known v = variable_sort known.types known.variables v

-- a side of the sort of the table's variable
abbrev pub is_typed_value : Known → Heading → ℕ → DraftSide → Bool
is_typed_value known h v side =
    option_map_or (λ s. is_sort s (draft_sort known side)) (sort_of_variable known v) false
    && (takes_primes h || not (list_any is_primed side.items))

abbrev pub is_variable_operand : Known → DraftOperand → Bool
is_variable_operand known One = false
is_variable_operand known (Truth b) = false
is_variable_operand known (Plain n) = is_variable known n
is_variable_operand known (Primed n) = is_variable known n

abbrev pub is_variable_item : Known → DraftItem → Bool
is_variable_item known item = is_variable_operand known item.operand

-- the side has a variable's name
abbrev pub has_variable : Known → DraftSide → Bool
has_variable known side = list_any (is_variable_item known) side.items

-- the sum of items without variables, for which the codes of a state are of no matter
abbrev pub items_value : Known → List DraftItem → ℤ
items_value known items = side_value (seen known) [] [] (record { items = map (item_of known) items })

-- a value without a variable's name is in the domain of the table's variable, where that is an integer
abbrev pub is_value_within : Known → ℕ → DraftSide → Bool
is_value_within known v side =
    option_map_or (λ d. has_variable known side || is_within d (items_value known side.items)) (variable_range known.types known.variables v) true

-- ---- what the limits on a text give

-- a constant is within the limit on numbers
abbrev pub is_narrow_constant : Constant → Bool
is_narrow_constant c = is_narrow c.value

-- a factor is within the limit on numbers
abbrev pub is_narrow_item : DraftItem → Bool
is_narrow_item item = is_narrow item.factor
