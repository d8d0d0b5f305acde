-- The goals of a table, in order.
use Rattle.std.specs.Prelude.{ℕ, ◌+◌, Bool, true, false, ◌&&◌, nat_lt, is_some, Option, Some, None, List, [], ◌∷◌, ◌++◌, map, length, slice_get}
use Rattle.std.specs.Option.{option_map_or}
use Rattle.std.specs.List.{filter, flat_map, range_with_len}
use Rattle.scr_spec.specs.Data.{Data}
use Rattle.scr_spec.specs.declared.table.Heading.{Heading}
use Rattle.scr_spec.specs.declared.table.Heading.TheVariants.{Condition, Event, Modes}
use Rattle.scr_spec.specs.declared.table.Table.{Table}
use Rattle.scr_spec.specs.Sorts.{variable_range}
use Rattle.scr_spec.specs.Values.{names_variable}
use Rattle.scr_spec.specs.Relations.{is_monitored, table_of}
use Rattle.prove_goals.specs.declared.goal.GoalKind.TheVariants.{Disjoint, Cover, Range}
use Rattle.prove_goals.specs.declared.goal.Goal.{Goal}

-- ---- which variable changes

-- the monitored variables, in order of declaration
abbrev pub monitored_variables : Data → List ℕ
monitored_variables spec = filter (is_monitored spec) (range_with_len 0 (length spec.variables))

-- a goal of a condition table stands once, and one of any other table once for each monitored variable, as the one that
-- changed
abbrev pub changes_in : Data → Heading → List (Option ℕ)
changes_in spec Condition = None ∷ []
changes_in spec Event = map (λ x. Some x) (monitored_variables spec)
changes_in spec Modes = map (λ x. Some x) (monitored_variables spec)

-- ---- disjoint; rows and columns count from 1

abbrev pub disjoint_goal : ℕ → ℕ → ℕ → Option ℕ → Goal
disjoint_goal row i j changed = record { kind = Disjoint; row = row + 1; first = i + 1; second = j + 1; changed = changed }

-- the columns behind column i, of n columns
abbrev pub columns_behind : ℕ → ℕ → List ℕ
columns_behind i n = filter (nat_lt i) (range_with_len 0 n)

-- each pair of columns
abbrev pub disjoint_goals : List (Option ℕ) → ℕ → ℕ → List Goal
disjoint_goals changes row n = flat_map (λ i. flat_map (λ j. map (disjoint_goal row i j) changes) (columns_behind i n)) (range_with_len 0 n)

-- ---- cover

abbrev pub cover_goal : ℕ → Goal
cover_goal row = record { kind = Cover; row = row + 1; first = 0; second = 0; changed = None }

-- for a condition table alone
abbrev pub cover_goals : Heading → ℕ → List Goal
cover_goals Condition row = cover_goal row ∷ []
cover_goals Event row = []
cover_goals Modes row = []

-- ---- range

abbrev pub range_goal : ℕ → ℕ → Option ℕ → Goal
range_goal row i changed = record { kind = Range; row = row + 1; first = i + 1; second = 0; changed = changed }

-- the table gives integers, and the value of the column names a variable
abbrev pub has_range : Data → Table → ℕ → Bool
has_range spec table column =
    is_some (variable_range spec.types spec.variables table.variable) && option_map_or names_variable (slice_get table.values column) false

abbrev pub range_goals : Data → List (Option ℕ) → Table → ℕ → ℕ → List Goal
range_goals spec changes table row n = flat_map (λ i. map (range_goal row i) changes) (filter (has_range spec table) (range_with_len 0 n))

-- ---- rows and tables

-- the number of columns of the row
abbrev pub columns_in : Table → ℕ → ℕ
columns_in table row = option_map_or (λ r. length r.cells) (slice_get table.rows row) 0

-- those of one row
abbrev pub row_goals : Data → Table → ℕ → List Goal
row_goals spec table row =
    disjoint_goals (changes_in spec table.heading) row (columns_in table row)
    ++ cover_goals table.heading row
    ++ range_goals spec (changes_in spec table.heading) table row (columns_in table row)

-- those of the table, by rows
abbrev pub table_goals : Data → Table → List Goal
table_goals spec table = flat_map (row_goals spec table) (range_with_len 0 (length table.rows))

-- those of the variable; a monitored one has no table, and so none
abbrev pub goals_of : Data → ℕ → List Goal
goals_of spec v = option_map_or (table_goals spec) (table_of spec v) []

-- the variable that changed, if the goal has one, is monitored
abbrev pub is_change_over : Data → Option ℕ → Bool
is_change_over spec changed = option_map_or (is_monitored spec) changed true

abbrev pub is_goal_over : Data → Goal → Bool
is_goal_over spec goal = is_change_over spec goal.changed
