-- Which table a variable has, and how its rows, cells and values are laid out.
use Rattle.std.specs.Prelude.{ℕ, Bool, true, false, ◌&&◌, nat_eq, nat_le, List, length, Option, is_some, is_none, slice_get, sum_by}
use Rattle.std.specs.Option.{option_map_or}
use Rattle.std.specs.List.{list_all, list_any}
use Rattle.scr_spec.specs.declared.limits.TheConstants.{ROW_LIMIT}
use Rattle.scr_spec.specs.declared.cond.Expr.{Expr}
use Rattle.scr_spec.specs.declared.spec.Variable.{Variable}
use Rattle.scr_spec.specs.declared.table.Cell.{Cell}
use Rattle.scr_spec.specs.declared.table.Cell.TheVariants as cell
use Rattle.scr_spec.specs.declared.table.Row.{Row}
use Rattle.scr_spec.specs.declared.table.Heading.{Heading}
use Rattle.scr_spec.specs.declared.table.Heading.TheVariants.{Condition, Event, Modes}
use Rattle.scr_spec.specs.declared.table.Table.{Table}
use Rattle.scr_spec.specs.Data.{Data}
use Rattle.scr_spec.specs.Roles.{is_class_role, is_computed_role}
use Rattle.scr_spec.specs.Formed.{is_event_formed}

-- ---- tables and variables

abbrev pub has_table : List Table → ℕ → Bool
has_table tables v = list_any (λ t. nat_eq t.variable v) tables

-- a condition table stands where there is no initial value, an event table where there is one, and a mode table at a
-- mode class
abbrev pub is_headed : Heading → Variable → Bool
is_headed Condition x = is_computed_role x.role && is_none x.init
is_headed Event x = is_computed_role x.role && is_some x.init
is_headed Modes x = is_class_role x.role

-- its variable is one for such a table
abbrev pub is_head_sound : Data → Table → Bool
is_head_sound spec table = option_map_or (is_headed table.heading) (slice_get spec.variables table.variable) false

abbrev pub is_class_at : Data → ℕ → Bool
is_class_at spec v = option_map_or (λ x. is_class_role x.role) (slice_get spec.variables v) false

-- the class of a mode table is its own variable; another table may have a mode class
abbrev pub is_over_class : Data → Heading → ℕ → Option ℕ → Bool
is_over_class spec Condition v class = option_map_or (is_class_at spec) class true
is_over_class spec Event v class = option_map_or (is_class_at spec) class true
is_over_class spec Modes v class = option_map_or (nat_eq v) class false

abbrev pub is_class_sound : Data → Table → Bool
is_class_sound spec table = is_over_class spec table.heading table.variable table.class

-- ---- cells

-- a condition in a condition table, and an event in every other
abbrev pub is_cell_formed : Heading → Cell → Bool
is_cell_formed Condition (cell.Cond c) = true
is_cell_formed Condition (cell.Event e) = false
is_cell_formed Event (cell.Cond c) = false
is_cell_formed Event (cell.Event e) = is_event_formed e
is_cell_formed Modes (cell.Cond c) = false
is_cell_formed Modes (cell.Event e) = is_event_formed e

-- at least one, all of the table's kind
abbrev pub is_row_formed : Heading → Row → Bool
is_row_formed heading row = nat_le 1 (length row.cells) && list_all (is_cell_formed heading) row.cells

abbrev pub are_cells_formed : Table → Bool
are_cells_formed table = list_all (is_row_formed table.heading) table.rows

-- ---- columns

abbrev pub has_width : ℕ → Row → Bool
has_width n row = nat_eq (length row.cells) n

-- a condition or event table has a row, and as many values as each row has cells; a mode table has no values, and its
-- cells come from no more lines than may be
abbrev pub is_laid_out : Heading → List Row → List Expr → Bool
is_laid_out Condition rows values = nat_le 1 (length rows) && list_all (has_width (length values)) rows
is_laid_out Event rows values = nat_le 1 (length rows) && list_all (has_width (length values)) rows
is_laid_out Modes rows values = nat_eq (length values) 0 && nat_le (sum_by (λ r. length r.cells) rows) ROW_LIMIT

abbrev pub is_layout_sound : Table → Bool
is_layout_sound table = is_laid_out table.heading table.rows table.values
