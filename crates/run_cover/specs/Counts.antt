-- Counts, and what a note makes of them.
use Rattle.std.specs.Prelude.{ℕ, ◌+◌, Bool, ◌&&◌, ◌==◌, if◌then◌else◌}
use Rattle.scr_spec.specs.Data.{Data}
use Rattle.scr_spec.specs.Meaning.{Codes}
use Rattle.run_cover.specs.declared.count.Count.{Count}
use Rattle.run_cover.specs.Cells.{CellPlace, held}

abbrev pub place_of : Count → CellPlace
place_of n = record { table = n.table; row = n.row; column = n.column }

-- the cell of a table that has this row and column, each counted from 0
abbrev pub cell_at : ℕ → ℕ → ℕ → CellPlace
cell_at table row column = record { table = table; row = row + 1; column = column + 1 }

abbrev pub is_of : CellPlace → Count → Bool
is_of cell n = (n.table == cell.table) && (n.row == cell.row) && (n.column == cell.column)

-- the cell held so often
abbrev pub counted : CellPlace → ℕ → Count
counted cell times = record { table = cell.table; row = cell.row; column = cell.column; times = times }

-- counted once more where its cell held
abbrev pub raised : Data → Codes → Codes → Count → Count
raised spec old new n = counted (place_of n) (n.times + (if held spec (place_of n) old new then 1 else 0))
