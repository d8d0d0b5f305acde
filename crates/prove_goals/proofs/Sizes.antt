-- A table of a specification has at most 64 rows, and at most 64 columns in each.
use Rattle.std.proofs.Common.{◌≡◌, ℕ, ◌≤◌, ◌&&◌, length, Option, Some, None, refl, arith, IsTrue}
use Rattle.std.specs.Prelude.{slice_get, nat_le, nat_lt}
use Rattle.std.specs.Option.{option_map_or}
use Rattle.std.specs.List.{list_all}
use Rattle.std.proofs.lemmas.Bool.{and_parts, leb-true}
use Rattle.std.proofs.lemmas.Bool.Decides.{nat_tests}
use Rattle.scr_spec.specs.declared.table.Row.{Row}
use Rattle.scr_spec.specs.declared.table.Heading.{Heading}
use Rattle.scr_spec.specs.declared.table.Heading.TheVariants.{Condition, Event, Modes}
use Rattle.scr_spec.specs.declared.table.Table.{Table}
use Rattle.scr_spec.specs.Data.{Data}
use Rattle.scr_spec.specs.Over.{is_side_over}
use Rattle.scr_spec.specs.Cells.{is_small, is_table_over, is_class_over, is_row_over, greatest_width}
use Rattle.scr_spec.proofs.Lookup.{all_get}
use Rattle.prove_goals.specs.Goals.{columns_in}

width_small : (h : Heading) → greatest_width h ≤ 64
width_small Condition = omega arith
width_small Event = omega arith
width_small Modes = omega arith

small_found : (table : Table) (row : ℕ) (o : Option Row) → slice_get table.rows row ≡ o → IsTrue (is_small table) → option_map_or (λ r. length r.cells) o 0 ≤ 64
small_found table row None e h = omega arith
small_found table row (Some r) e h =
    let both = and_parts (nat_le (length table.rows) 64) (list_all (λ q. nat_le (length q.cells) (greatest_width table.heading)) table.rows) h in
    let k = leb-true _ _ (all_get (λ q. nat_le (length q.cells) (greatest_width table.heading)) table.rows row r (both.1) e) in
    omega (arith, k, width_small table.heading)

pub columns_small : (table : Table) (row : ℕ) → IsTrue (is_small table) → columns_in table row ≤ 64
columns_small table row h = small_found table row (slice_get table.rows row) refl h

pub rows_small : (table : Table) → IsTrue (is_small table) → length table.rows ≤ 64
rows_small table h = leb-true _ _ ((and_parts (nat_le (length table.rows) 64) _ h).0)

pub ruleset size_laws = (columns_small, rows_small, nat_tests)

-- each table of a specification is
pub small_table : (spec : Data) (table : Table) → IsTrue (is_table_over spec table) → IsTrue (is_small table)
small_table spec table h =
    (and_parts (is_class_over spec table.class && list_all (is_row_over spec) table.rows && nat_lt table.variable (length spec.variables) && list_all (is_side_over spec) table.values) (is_small table) h).1
