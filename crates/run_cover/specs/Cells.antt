-- The cells of a specification, and at how many inputs of a run each one held.
use Rattle.std.specs.Prelude.{ℕ, ◌+◌, ◌-◌, Bool, false, List, [], ◌∷◌, length, map, slice_get}
use Rattle.std.specs.List.{flat_map, range_with_len, zip, count_by}
use Rattle.std.specs.Option.{option_map_or}
use Rattle.scr_spec.specs.Data.{Data}
use Rattle.scr_spec.specs.declared.table.Table.{Table}
use Rattle.scr_spec.specs.Meaning.{Codes}
use Rattle.scr_spec.specs.Cells.{holds_in}

-- a cell: its table from 0, its row and its column from 1
pub record CellPlace : Type 0 where
  pub table : ℕ
  pub row : ℕ
  pub column : ℕ

-- ---- all cells: tables in text order, then rows, then columns

-- how many cells the row with this number from 0 has
abbrev pub width : Table → ℕ → ℕ
width table row = option_map_or (λ it. length it.cells) (slice_get table.rows row) 0

abbrev pub row_cells : ℕ → ℕ → ℕ → List CellPlace
row_cells number row cells = map (λ column. record { table = number; row = row + 1; column = column + 1 }) (range_with_len 0 cells)

abbrev pub table_cells : ℕ → Table → List CellPlace
table_cells number table = flat_map (λ row. row_cells number row (width table row)) (range_with_len 0 (length table.rows))

abbrev pub numbered_cells : Data → ℕ → List CellPlace
numbered_cells spec number = option_map_or (table_cells number) (slice_get spec.tables number) []

abbrev pub cells_of : Data → List CellPlace
cells_of spec = flat_map (numbered_cells spec) (range_with_len 0 (length spec.tables))

-- ---- how often they held

-- a cell of a condition table holds in the new state, and that of another table at both
abbrev pub held : Data → CellPlace → Codes → Codes → Bool
held spec cell old new = option_map_or (λ table. holds_in spec table (cell.row - 1) (cell.column - 1) old new) (slice_get spec.tables cell.table) false

-- the steps of a run with this first state and these behind it, one for each input: the state before it and the one after it
abbrev pub steps_of : Codes → List Codes → List (Codes × Codes)
steps_of first states = zip (first ∷ states) states

-- at how many of these steps the cell held; the first state alone is none
abbrev pub times_held : Data → CellPlace → Codes → List Codes → ℕ
times_held spec cell first states = count_by (λ step. held spec cell step.0 step.1) (steps_of first states)
