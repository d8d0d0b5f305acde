-- When a cell of a table holds (TOSEM 1996).
use Rattle.std.specs.Prelude.{ℕ, ℤ, Bool, true, false, ◌&&◌, nat_lt, nat_le, length, List, Option, Some, None, slice_get}
use Rattle.std.specs.Option.{option_map_or}
use Rattle.std.specs.Ordering.{int_eq}
use Rattle.std.specs.List.{list_all, list_any}
use Rattle.scr_spec.specs.Data.{Data}
use Rattle.scr_spec.specs.declared.limits.TheConstants.{CELL_LIMIT, ROW_LIMIT}
use Rattle.scr_spec.specs.declared.table.Cell.{Cell}
use Rattle.scr_spec.specs.declared.table.Cell.TheVariants.{Cond, Event}
use Rattle.scr_spec.specs.declared.table.Row.{Row}
use Rattle.scr_spec.specs.declared.table.Heading.{Heading}
use Rattle.scr_spec.specs.declared.table.Heading.TheVariants.{Condition, Event as Events, Modes}
use Rattle.scr_spec.specs.declared.table.Table.{Table}
use Rattle.scr_spec.specs.Types.{is_narrow}
use Rattle.scr_spec.specs.Meaning.{Codes, code_of, is_true}
use Rattle.scr_spec.specs.Over.{is_cond_over, is_side_over}
use Rattle.scr_spec.specs.Events.{event_true, is_event_over}

-- without a class there is no test of modes
abbrev pub in_modes : Option ℕ → List ℤ → Codes → Bool
in_modes None modes at = true
in_modes (Some v) modes at = list_any (λ mode. int_eq (code_of at v) mode) modes

-- a condition table looks at the new state
abbrev pub looked_at : Heading → Codes → Codes → Codes
looked_at Condition old new = new
looked_at Events old new = old
looked_at Modes old new = old

-- a condition is looked at in the new state, and an event at both
abbrev pub cell_true : Data → Heading → Codes → Codes → Cell → Bool
cell_true spec Condition old new (Cond c) = is_true spec new c
cell_true spec Condition old new (Event e) = false
cell_true spec Events old new (Cond c) = false
cell_true spec Events old new (Event e) = event_true spec old new e
cell_true spec Modes old new (Cond c) = false
cell_true spec Modes old new (Event e) = event_true spec old new e

-- the class has one of the row's modes, and the condition is true or the event happens
abbrev pub row_cell_true : Data → Table → Codes → Codes → ℕ → Row → Bool
row_cell_true spec table old new column row =
    in_modes table.class row.modes (looked_at table.heading old new) && option_map_or (cell_true spec table.heading old new) (slice_get row.cells column) false

-- the cell holds
abbrev pub holds_in : Data → Table → ℕ → ℕ → Codes → Codes → Bool
holds_in spec table row column old new = option_map_or (row_cell_true spec table old new column) (slice_get table.rows row) false

-- the condition or event of the cell is one over the specification
abbrev pub is_cell_over : Data → Cell → Bool
is_cell_over spec (Cond c) = is_cond_over spec c
is_cell_over spec (Event e) = is_event_over spec e

-- the class, if there is one, is a variable of the specification
abbrev pub is_class_over : Data → Option ℕ → Bool
is_class_over spec None = true
is_class_over spec (Some v) = nat_lt v (length spec.variables)

-- each cell is one over the specification, and each mode and target is narrow
abbrev pub is_row_over : Data → Row → Bool
is_row_over spec row = list_all (is_cell_over spec) row.cells && list_all is_narrow row.modes && list_all is_narrow row.targets

-- the most cells of a ROW line; a row of a mode table has one for each of its FROM lines at most
abbrev pub greatest_width : Heading → ℕ
greatest_width Condition = CELL_LIMIT
greatest_width Events = CELL_LIMIT
greatest_width Modes = ROW_LIMIT

-- no more rows than may be, each of at most that many cells
abbrev pub is_small : Table → Bool
is_small table = nat_le (length table.rows) ROW_LIMIT && list_all (λ r. nat_le (length r.cells) (greatest_width table.heading)) table.rows

-- each part of the table is one over the specification
abbrev pub is_table_over : Data → Table → Bool
is_table_over spec table = is_class_over spec table.class && list_all (is_row_over spec) table.rows && nat_lt table.variable (length spec.variables) && list_all (is_side_over spec) table.values && is_small table

-- the table has that row, and the row that column
abbrev pub has_cell : Table → ℕ → ℕ → Bool
has_cell table row column = option_map_or (λ r. nat_lt column (length r.cells)) (slice_get table.rows row) false
