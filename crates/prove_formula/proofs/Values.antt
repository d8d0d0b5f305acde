-- The side that gives a cell's value is one over the specification.
use Rattle.std.proofs.Common.{◌≡◌, ℕ, ◌&&◌, Some, IsTrue}
use Rattle.std.specs.Prelude.{nat_lt, length}
use Rattle.std.specs.List.{list_all}
use Rattle.std.proofs.lemmas.Bool.{and_parts}
use Rattle.scr_spec.specs.Data.{Data}
use Rattle.scr_spec.specs.declared.cond.Expr.{Expr}
use Rattle.scr_spec.specs.declared.table.Heading.{Heading}
use Rattle.scr_spec.specs.declared.table.Heading.TheVariants.{Condition, Event, Modes}
use Rattle.scr_spec.specs.declared.table.Table.{Table}
use Rattle.scr_spec.specs.Over.{is_side_over}
use Rattle.scr_spec.specs.Cells.{is_class_over, is_row_over, is_small, is_table_over}
use Rattle.scr_spec.proofs.Lookup.{all_get}
use Rattle.prove_formula.specs.Tables.{value_side}

side_over : (spec : Data) (table : Table) (column : ℕ) (h : Heading) (e : Expr) → IsTrue (list_all (is_side_over spec) table.values) → value_side table column h ≡ Some e → IsTrue (is_side_over spec e)
side_over spec table column Condition e h k = all_get (is_side_over spec) table.values column e h k
side_over spec table column Event e h k = all_get (is_side_over spec) table.values column e h k
side_over spec table column Modes e h k = cc

pub value_side_over : (spec : Data) (table : Table) (column : ℕ) (h : Heading) (e : Expr) → IsTrue (is_table_over spec table) → value_side table column h ≡ Some e → IsTrue (is_side_over spec e)
value_side_over spec table column h e over k =
    let rest = is_class_over spec table.class && list_all (is_row_over spec) table.rows && nat_lt table.variable (length spec.variables) in
    let values = list_all (is_side_over spec) table.values in
    side_over spec table column h e ((and_parts rest values ((and_parts (rest && values) (is_small table) over).0)).1) k

pub ruleset value_laws = (value_side_over, all_get)
