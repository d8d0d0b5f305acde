use Rattle.std.proofs.Common.{◌≡◌, map, take}
use Rattle.std.specs.List.{filter}
use Rattle.scr_depend.specs.Graphs.{is_among}
use Rattle.scr_slice.specs.Renumbered.{table_with}
use Rattle.scr_slice.specs.Slices.{number_in}
use Rattle.scr_slice.proofs.part.kept_tables.Given as goal

abbrev pub invariant-loop-it : goal.invariant-loop-it
invariant-loop-it l = l.kept ≡ map (table_with (number_in l.keep)) (filter (λ t. is_among l.keep t.variable) (take l.it-index l.tables))
