-- What the lines of a table add: its head begins it, each row, values and transition are put into it, and END keeps it.
use Rattle.std.specs.Prelude.{ℕ, ℤ, pos, if◌then◌else◌, List, [], ◌∷◌, ◌++◌, map, Option, Some, None, unwrap_or}
use Rattle.std.specs.Option.{option_map, option_map_or, option_and_then, option_to_list}
use Rattle.std.specs.Ordering.{int_eq}
use Rattle.std.specs.List.{list_any}
use Rattle.scr_spec.specs.declared.cond.Expr.{Expr}
use Rattle.scr_spec.specs.declared.table.Cell.{Cell}
use Rattle.scr_spec.specs.declared.table.Cell.TheVariants as cell
use Rattle.scr_spec.specs.declared.table.Event.{Event}
use Rattle.scr_spec.specs.declared.table.Primitive.{Primitive}
use Rattle.scr_spec.specs.declared.table.Heading.{Heading}
use Rattle.scr_spec.specs.declared.table.Heading.TheVariants as h
use Rattle.scr_spec.specs.declared.table.Row.{Row}
use Rattle.scr_spec.specs.declared.table.Table.{Table}
use Rattle.scr_parse.specs.declared.draft.DraftCell.{DraftCell}
use Rattle.scr_parse.specs.declared.draft.DraftEvent.{DraftEvent}
use Rattle.scr_parse.specs.declared.draft.DraftSide.{DraftSide}
use Rattle.scr_scope.specs.declared.known.Known.{Known}
use Rattle.scr_scope.specs.Names.{Name}
use Rattle.scr_scope.specs.Meanings.{variable_named}
use Rattle.scr_scope.specs.Sides.{side_of}
use Rattle.scr_scope.specs.Events.{event_of, cell_of}
use Rattle.scr_resolve.specs.Tables.{mode_named, has_mode, current_class}

-- ---- heads

-- the class of a mode table is its own variable
abbrev pub head_class : Known → Heading → Name → Option Name → Option ℕ
head_class known h.Condition n class = option_and_then (variable_named known) class
head_class known h.Event n class = option_and_then (variable_named known) class
head_class known h.Modes n class = variable_named known n

abbrev pub table_of : Known → Heading → Name → Option Name → Table
table_of known heading n class =
    record { variable = unwrap_or (variable_named known n) 0; heading = heading; class = head_class known heading n class; rows = []; values = [] }

abbrev pub with_head : Known → Heading → Name → Option Name → Known
with_head known heading n class = record known { current = Some (table_of known heading n class) }

-- ---- rows and values

-- the code of a mode of the table's class
abbrev pub mode_code : Known → Name → ℤ
mode_code known n = option_map_or pos (option_and_then (λ v. mode_named known v n) (current_class known)) (pos 0)

abbrev pub row_of : Known → List Name → List DraftCell → Row
row_of known modes cells = record { modes = map (mode_code known) modes; cells = map (cell_of known) cells; targets = [] }

abbrev pub row_added : Row → Table → Table
row_added row t = record t { rows = t.rows ++ row ∷ [] }

abbrev pub with_row : Known → List Name → List DraftCell → Known
with_row known modes cells = record known { current = option_map (row_added (row_of known modes cells)) known.current }

abbrev pub values_set : List Expr → Table → Table
values_set values t = record t { values = values }

abbrev pub with_values : Known → List DraftSide → Known
with_values known sides = record known { current = option_map (values_set (map (side_of known) sides)) known.current }

-- ---- transitions

abbrev pub cell_prims : Cell → List Primitive
cell_prims (cell.Cond c) = []
cell_prims (cell.Event e) = e.prims

-- the events of two lines with the same source and target, joined by OR
abbrev pub joined : Cell → Event → Cell
joined old e = cell.Event (record { prims = cell_prims old ++ e.prims })

-- the cell of this target has the event besides its own, or a new cell has it
abbrev pub cells_with : ℤ → Event → List ℤ → List Cell → List Cell
cells_with target e [] cells = cells ++ cell.Event e ∷ []
cells_with target e (t ∷ ts) [] = cell.Event e ∷ []
cells_with target e (t ∷ ts) (c ∷ cs) = if int_eq target t then joined c e ∷ cs else c ∷ cells_with target e ts cs

-- the target is one of the targets
abbrev pub targets_with : ℤ → List ℤ → List ℤ
targets_with target targets = if list_any (int_eq target) targets then targets else targets ++ target ∷ []

abbrev pub row_with : ℤ → Event → Row → Row
row_with target e row = record { modes = row.modes; cells = cells_with target e row.targets row.cells; targets = targets_with target row.targets }

abbrev pub row_from : ℤ → ℤ → Event → Row
row_from source target e = record { modes = source ∷ []; cells = cell.Event e ∷ []; targets = target ∷ [] }

-- the row of this source has the transition besides its own, or a new row has it
abbrev pub rows_with : ℤ → ℤ → Event → List Row → List Row
rows_with source target e [] = row_from source target e ∷ []
rows_with source target e (row ∷ rows) = if has_mode source row then row_with target e row ∷ rows else row ∷ rows_with source target e rows

abbrev pub transition_added : ℤ → ℤ → Event → Table → Table
transition_added source target e t = record t { rows = rows_with source target e t.rows }

abbrev pub with_transition : Known → Name → Name → DraftEvent → Known
with_transition known source target e =
    record known { current = option_map (transition_added (mode_code known source) (mode_code known target) (event_of known e)) known.current }

-- ---- END

abbrev pub with_end : Known → Known
with_end known = record known { tables = known.tables ++ option_to_list known.current; current = None }
