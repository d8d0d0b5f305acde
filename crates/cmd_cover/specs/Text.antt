-- The lines on the coverage of a run.
use Rattle.std.specs.Prelude.{ℕ, List, [], ◌++◌, length, map, slice_get, codes, decimal}
use Rattle.std.specs.List.{flat_map}
use Rattle.std.specs.Option.{option_map_or}
use Rattle.scr_spec.specs.Data.{Data}
use Rattle.scr_spec.specs.Meaning.{Codes}
use Rattle.scr_spec.specs.Names.{variable_name}
use Rattle.run_cover.specs.declared.count.Count.{Count}
use Rattle.run_cover.specs.Cells.{cells_of, times_held}
use Rattle.run_cover.specs.Counts.{counted}

-- the name of the variable of a table
abbrev pub table_name : Data → ℕ → List ℕ
table_name spec number = option_map_or (λ table. variable_name spec table.variable) (slice_get spec.tables number) []

-- at how many inputs the cell held
abbrev pub count_text : Data → Count → List ℕ
count_text spec n = codes "table " ++ table_name spec n.table ++ codes " row " ++ decimal n.row ++ codes " column " ++ decimal n.column ++ codes ": " ++ decimal n.times ++ codes "\n"

abbrev pub tally_text : Data → List Count → ℕ → List ℕ
tally_text spec counts notes = flat_map (count_text spec) counts ++ codes "inputs " ++ decimal notes ++ codes "\n"

-- each cell with the number of inputs at which it held, and how many inputs there were: of a run with this first state and these behind it
abbrev pub coverage_text : Data → Codes → List Codes → List ℕ
coverage_text spec first states = tally_text spec (map (λ cell. counted cell (times_held spec cell first states)) (cells_of spec)) (length states)
