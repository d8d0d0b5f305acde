-- The modes and the targets of the rows of a table.
use Rattle.std.specs.Prelude.{ℕ, ℤ, pos, Bool, true, not, ◌&&◌, nat_eq, nat_le, List, length, Option, Some, None}
use Rattle.std.specs.Option.{option_map_or}
use Rattle.std.specs.Ordering.{int_eq}
use Rattle.std.specs.List.{list_all, list_any, flat_map, range_with_len}
use Rattle.scr_spec.specs.declared.table.Row.{Row}
use Rattle.scr_spec.specs.declared.table.Heading.{Heading}
use Rattle.scr_spec.specs.declared.table.Heading.TheVariants.{Condition, Event, Modes}
use Rattle.scr_spec.specs.declared.table.Table.{Table}
use Rattle.scr_spec.specs.Data.{Data}
use Rattle.scr_spec.specs.Over.{modes_of, is_place}
use Rattle.scr_spec.specs.Distinct.{are_distinct}

-- the modes that the rows name, in order
abbrev pub named_modes : List Row → List ℤ
named_modes rows = flat_map (λ r. r.modes) rows

-- without a class there is one row, without modes; with one each row names modes of it, and no mode is named twice
abbrev pub are_modes_of : Data → Option ℕ → List Row → Bool
are_modes_of spec None rows = nat_le (length rows) 1 && list_all (λ r. nat_eq (length r.modes) 0) rows
are_modes_of spec (Some v) rows =
    list_all (λ r. nat_le 1 (length r.modes)) rows && list_all (is_place (modes_of spec v)) (named_modes rows) && are_distinct int_eq (named_modes rows)

abbrev pub are_modes_sound : Data → Table → Bool
are_modes_sound spec table = are_modes_of spec table.class table.rows

-- some row names the mode with this code
abbrev pub is_named : List Row → ℤ → Bool
is_named rows mode = list_any (int_eq mode) (named_modes rows)

-- each mode of the class
abbrev pub are_all_named : List Row → List (List ℕ) → Bool
are_all_named rows names = list_all (λ i. is_named rows (pos i)) (range_with_len 0 (length names))

-- a condition table over a class names each of its modes
abbrev pub is_complete_under : Data → Heading → Option ℕ → List Row → Bool
is_complete_under spec Condition class rows = option_map_or (λ v. are_all_named rows (modes_of spec v)) class true
is_complete_under spec Event class rows = true
is_complete_under spec Modes class rows = true

abbrev pub is_complete : Data → Table → Bool
is_complete spec table = is_complete_under spec table.heading table.class table.rows

-- one source; one target for each cell; the targets are other modes of the class, and differ
abbrev pub is_transition : List (List ℕ) → Row → Bool
is_transition names row =
    nat_eq (length row.modes) 1 && nat_eq (length row.targets) (length row.cells) && list_all (is_place names) row.targets && are_distinct int_eq row.targets
    && list_all (λ source. not (list_any (int_eq source) row.targets)) row.modes

-- the rows of a mode table are transitions; other rows have no targets
abbrev pub is_row_targeted : Data → Heading → ℕ → Row → Bool
is_row_targeted spec Condition v row = nat_eq (length row.targets) 0
is_row_targeted spec Event v row = nat_eq (length row.targets) 0
is_row_targeted spec Modes v row = is_transition (modes_of spec v) row

abbrev pub are_targets_sound : Data → Table → Bool
are_targets_sound spec table = list_all (is_row_targeted spec table.heading table.variable) table.rows
