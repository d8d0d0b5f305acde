-- The values of a table.
use Rattle.std.specs.Prelude.{ℕ, Bool, true, false, ◌||◌, ◌&&◌, []}
use Rattle.std.specs.Option.{option_map_or}
use Rattle.std.specs.List.{list_all, list_any}
use Rattle.scr_spec.specs.declared.cond.Operand.{Operand}
use Rattle.scr_spec.specs.declared.cond.Operand.TheVariants.{One, Truth, Constant, Label, Variable, Primed}
use Rattle.scr_spec.specs.declared.cond.Expr.{Expr}
use Rattle.scr_spec.specs.declared.table.Heading.{Heading}
use Rattle.scr_spec.specs.declared.table.Heading.TheVariants.{Condition, Event, Modes}
use Rattle.scr_spec.specs.declared.table.Table.{Table}
use Rattle.scr_spec.specs.Data.{Data}
use Rattle.scr_spec.specs.Sorts.{is_sort, variable_sort, variable_range}
use Rattle.dd_formula.specs.Domains.{is_within}
use Rattle.scr_spec.specs.Meaning.{side_value}
use Rattle.scr_spec.specs.Typed.{side_sort}
use Rattle.scr_spec.specs.Formed.{is_side_formed, is_side_plain}

-- the side has the sort of the variable
abbrev pub is_value_typed : Data → ℕ → Expr → Bool
is_value_typed spec v e = option_map_or (λ s. is_sort s (side_sort spec e)) (variable_sort spec.types spec.variables v) false

-- a primed name stands in an event table alone
abbrev pub is_value_primed_in : Heading → Expr → Bool
is_value_primed_in Condition e = is_side_plain e
is_value_primed_in Event e = true
is_value_primed_in Modes e = is_side_plain e

abbrev pub is_variable : Operand → Bool
is_variable One = false
is_variable (Truth b) = false
is_variable (Constant k) = false
is_variable (Label owner code) = false
is_variable (Variable v) = true
is_variable (Primed v) = true

abbrev pub names_variable : Expr → Bool
names_variable e = list_any (λ item. is_variable item.operand) e.items

-- a value of an integer variable is in its range, where it names no variable and so is the same in all states
abbrev pub is_value_inside : Data → ℕ → Expr → Bool
is_value_inside spec v e = option_map_or (λ d. names_variable e || is_within d (side_value spec [] [] e)) (variable_range spec.types spec.variables v) true

abbrev pub is_value_sound : Data → Heading → ℕ → Expr → Bool
is_value_sound spec heading v e = is_side_formed e && is_value_typed spec v e && is_value_primed_in heading e && is_value_inside spec v e

abbrev pub are_values_sound : Data → Table → Bool
are_values_sound spec table = list_all (is_value_sound spec table.heading table.variable) table.values
