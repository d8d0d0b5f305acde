-- A test of each side of a condition, and of each condition of a table.
use Rattle.std.specs.Prelude.{Bool, true, ◌&&◌}
use Rattle.std.specs.Option.{option_map_or}
use Rattle.std.specs.List.{list_all}
use Rattle.scr_spec.specs.declared.cond.Expr.{Expr}
use Rattle.scr_spec.specs.declared.cond.Cond.{Cond, fold-Cond}
use Rattle.scr_spec.specs.declared.cond.Cond.TheOpen.{Cond-F, Truth, Holds, Compare, Not, And, Or}
use Rattle.scr_spec.specs.declared.table.Change.{Change}
use Rattle.scr_spec.specs.declared.table.Change.TheVariants.{Becomes, Ceases, Changes, Never}
use Rattle.scr_spec.specs.declared.table.Primitive.{Primitive}
use Rattle.scr_spec.specs.declared.table.Cell.{Cell}
use Rattle.scr_spec.specs.declared.table.Cell.TheVariants as cell
use Rattle.scr_spec.specs.declared.table.Row.{Row}
use Rattle.scr_spec.specs.declared.table.Table.{Table}

-- from the tests of the parts
abbrev pub sides_step : (Expr → Bool) → Cond-F Bool → Bool
sides_step p (Truth b) = true
sides_step p (Holds v) = true
sides_step p (Compare l relation m) = p l && p m
sides_step p (Not t) = t
sides_step p (And ts) = list_all (λ t. t) ts
sides_step p (Or ts) = list_all (λ t. t) ts

-- each side of the condition passes
abbrev pub sides_pass : (Expr → Bool) → Cond → Bool
sides_pass p c = fold-Cond Bool (sides_step p) c

-- the condition behind `@T` or `@F` passes
abbrev pub change_passes : (Cond → Bool) → Change → Bool
change_passes p (Becomes c) = p c
change_passes p (Ceases c) = p c
change_passes p (Changes v) = true
change_passes p Never = true

-- and the one behind WHEN
abbrev pub prim_passes : (Cond → Bool) → Primitive → Bool
prim_passes p prim = change_passes p prim.change && option_map_or p prim.guard true

-- each condition of the cell passes
abbrev pub cell_passes : (Cond → Bool) → Cell → Bool
cell_passes p (cell.Cond c) = p c
cell_passes p (cell.Event e) = list_all (prim_passes p) e.prims

abbrev pub row_passes : (Cond → Bool) → Row → Bool
row_passes p row = list_all (cell_passes p) row.cells

-- each condition of the table passes
abbrev pub conds_pass : (Cond → Bool) → Table → Bool
conds_pass p table = list_all (row_passes p) table.rows
