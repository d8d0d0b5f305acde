-- Events and cells: the first unknown name, whether they are well typed and within the bound of a side, and what they
-- resolve to.
use Rattle.std.specs.Prelude.{ℕ, Bool, true, ◌&&◌, map, Option, None, unwrap_or}
use Rattle.std.specs.Option.{option_or, option_map, option_map_or, option_and_then}
use Rattle.std.specs.List.{list_all}
use Rattle.scr_spec.specs.declared.cond.Cond.{Cond}
use Rattle.scr_spec.specs.declared.table.Change.{Change}
use Rattle.scr_spec.specs.declared.table.Change.TheVariants as made
use Rattle.scr_spec.specs.declared.table.Primitive.{Primitive}
use Rattle.scr_spec.specs.declared.table.Event.{Event}
use Rattle.scr_spec.specs.declared.table.Cell.{Cell}
use Rattle.scr_spec.specs.declared.table.Cell.TheVariants as cell
use Rattle.scr_parse.specs.declared.draft.DraftCond.{DraftCond}
use Rattle.scr_parse.specs.declared.draft.DraftChange.{DraftChange}
use Rattle.scr_parse.specs.declared.draft.DraftChange.TheVariants.{Becomes, Ceases, Changes, Never}
use Rattle.scr_parse.specs.declared.draft.DraftPrim.{DraftPrim}
use Rattle.scr_parse.specs.declared.draft.DraftEvent.{DraftEvent}
use Rattle.scr_parse.specs.declared.draft.DraftCell.{DraftCell}
use Rattle.scr_parse.specs.declared.draft.DraftCell.TheVariants as drawn
use Rattle.scr_scope.specs.declared.known.Known.{Known}
use Rattle.scr_scope.specs.Names.{Name}
use Rattle.scr_scope.specs.First.{first_in}
use Rattle.scr_scope.specs.Meanings.{unknown, variable_named, is_variable}
use Rattle.scr_scope.specs.Conditions.{unknown_cond, is_typed_cond, is_narrow_cond, cond_of}

-- ---- names

abbrev pub unknown_change : Known → DraftChange → Option Name
unknown_change known (Becomes c) = unknown_cond known c
unknown_change known (Ceases c) = unknown_cond known c
unknown_change known (Changes n) = unknown known n
unknown_change known Never = None

abbrev pub unknown_guard : Known → Option DraftCond → Option Name
unknown_guard known guard = option_and_then (unknown_cond known) guard

-- the change stands before WHEN
abbrev pub unknown_prim : Known → DraftPrim → Option Name
unknown_prim known p = option_or (unknown_change known p.change) (unknown_guard known p.guard)

abbrev pub unknown_event : Known → DraftEvent → Option Name
unknown_event known e = first_in (unknown_prim known) e.prims

abbrev pub unknown_cell : Known → DraftCell → Option Name
unknown_cell known (drawn.Cond c) = unknown_cond known c
unknown_cell known (drawn.Event e) = unknown_event known e

-- ---- types

-- `@C` names a variable
abbrev pub is_typed_change : Known → DraftChange → Bool
is_typed_change known (Becomes c) = is_typed_cond known c
is_typed_change known (Ceases c) = is_typed_cond known c
is_typed_change known (Changes n) = is_variable known n
is_typed_change known Never = true

abbrev pub is_typed_guard : Known → Option DraftCond → Bool
is_typed_guard known guard = option_map_or (is_typed_cond known) guard true

abbrev pub is_typed_prim : Known → DraftPrim → Bool
is_typed_prim known p = is_typed_change known p.change && is_typed_guard known p.guard

abbrev pub is_typed_event : Known → DraftEvent → Bool
is_typed_event known e = list_all (is_typed_prim known) e.prims

abbrev pub is_typed_cell : Known → DraftCell → Bool
is_typed_cell known (drawn.Cond c) = is_typed_cond known c
is_typed_cell known (drawn.Event e) = is_typed_event known e

-- ---- bounds

abbrev pub is_narrow_change : Known → DraftChange → Bool
is_narrow_change known (Becomes c) = is_narrow_cond known c
is_narrow_change known (Ceases c) = is_narrow_cond known c
is_narrow_change known (Changes n) = true
is_narrow_change known Never = true

abbrev pub is_narrow_guard : Known → Option DraftCond → Bool
is_narrow_guard known guard = option_map_or (is_narrow_cond known) guard true

abbrev pub is_narrow_prim : Known → DraftPrim → Bool
is_narrow_prim known p = is_narrow_change known p.change && is_narrow_guard known p.guard

abbrev pub is_narrow_event : Known → DraftEvent → Bool
is_narrow_event known e = list_all (is_narrow_prim known) e.prims

abbrev pub is_narrow_cell : Known → DraftCell → Bool
is_narrow_cell known (drawn.Cond c) = is_narrow_cond known c
is_narrow_cell known (drawn.Event e) = is_narrow_event known e

-- ---- what they resolve to

-- the variable that changes; a name that is no variable counts as the first
abbrev pub changing : Known → Name → ℕ
changing known n = unwrap_or (variable_named known n) 0

abbrev pub change_of : Known → DraftChange → Change
change_of known (Becomes c) = made.Becomes (cond_of known c)
change_of known (Ceases c) = made.Ceases (cond_of known c)
change_of known (Changes n) = made.Changes (changing known n)
change_of known Never = made.Never

abbrev pub guard_of : Known → Option DraftCond → Option Cond
guard_of known guard = option_map (cond_of known) guard

abbrev pub prim_of : Known → DraftPrim → Primitive
prim_of known p = record { change = change_of known p.change; guard = guard_of known p.guard }

abbrev pub event_of : Known → DraftEvent → Event
event_of known e = record { prims = map (prim_of known) e.prims }

abbrev pub cell_of : Known → DraftCell → Cell
cell_of known (drawn.Cond c) = cell.Cond (cond_of known c)
cell_of known (drawn.Event e) = cell.Event (event_of known e)
