-- The rules of one line, each kind by the first name on the line that breaks it, and the state after a line.
use Rattle.std.specs.Prelude.{Bool, true, ◌&&◌, nat_le, List, length, Option, Some, None}
use Rattle.std.specs.Option.{option_or, option_map, option_map_or}
use Rattle.std.specs.List.{list_all}
use Rattle.scr_spec.specs.declared.limits.TheConstants.{ITEM_LIMIT}
use Rattle.scr_parse.specs.declared.draft.DraftEvent.{DraftEvent}
use Rattle.scr_parse.specs.declared.draft.DraftSide.{DraftSide}
use Rattle.scr_parse.specs.declared.draft.Statement.{Statement}
use Rattle.scr_parse.specs.declared.draft.Statement.TheVariants as s
use Rattle.scr_scope.specs.declared.known.Known.{Known}
use Rattle.scr_scope.specs.Names.{Name}
use Rattle.scr_scope.specs.First.{unless, first_in}
use Rattle.scr_scope.specs.Meanings.{unknown}
use Rattle.scr_scope.specs.Declarations.{duplicate_declaration, unknown_declaration, ill_declaration, outside_declaration, with_declaration}
use Rattle.scr_scope.specs.Sides.{unknown_side, is_typed_value, is_value_within, is_narrow_item, is_narrow_side}
use Rattle.scr_scope.specs.Events.{unknown_event, unknown_cell, is_typed_event, is_typed_cell, is_narrow_event, is_narrow_cell}
use Rattle.scr_resolve.specs.declared.fault.TypeKind.{TypeKind}
use Rattle.scr_resolve.specs.declared.fault.TypeKind.TheVariants as k
use Rattle.scr_resolve.specs.Tables.{is_head_new, ill_head, is_head_placed, variable_unless, bad_mode, bad_transition, missing_mode, is_row_placed, are_values_placed, first_bare}
use Rattle.scr_resolve.specs.Built.{with_head, with_row, with_values, with_transition, with_end}

-- ---- duplicate: a name is declared twice, or a variable has two tables or two bounds

abbrev pub duplicate_in : Known → Statement → Option Name
duplicate_in known (s.Head heading n class) = unless (is_head_new known n) n
duplicate_in known line = duplicate_declaration known line

-- ---- unknown: a name that is used is not declared

abbrev pub unknown_class : Known → Option Name → Option Name
unknown_class known None = None
unknown_class known (Some n) = unknown known n

-- the source, the target and the event in this order
abbrev pub unknown_transition : Known → Name → Name → DraftEvent → Option Name
unknown_transition known source target e = option_or (unknown known source) (option_or (unknown known target) (unknown_event known e))

abbrev pub unknown_in : Known → Statement → Option Name
unknown_in known (s.Head heading n class) = option_or (unknown known n) (unknown_class known class)
unknown_in known (s.Row modes cells) = option_or (first_in (unknown known) modes) (first_in (unknown_cell known) cells)
unknown_in known (s.Values sides) = first_in (unknown_side known) sides
unknown_in known (s.Transition source target e) = unknown_transition known source target e
unknown_in known line = unknown_declaration known line

-- ---- type: a name stands for something else, or a cell is not well typed

abbrev pub are_values_typed : Known → List DraftSide → Bool
are_values_typed known sides = option_map_or (λ t. list_all (is_typed_value known t.heading t.variable) sides) known.current true

abbrev pub ill_in : Known → Statement → Option Name
ill_in known (s.Head heading n class) = ill_head known heading n class
ill_in known (s.Row modes cells) = variable_unless known (list_all (is_typed_cell known) cells)
ill_in known (s.Values sides) = variable_unless known (are_values_typed known sides)
ill_in known (s.Transition source target e) = variable_unless known (is_typed_event known e)
ill_in known line = ill_declaration known line

-- ---- range: a number is outside the values of a type

abbrev pub are_values_within : Known → List DraftSide → Bool
are_values_within known sides = option_map_or (λ t. list_all (is_value_within known t.variable) sides) known.current true

abbrev pub outside_in : Known → Statement → Option Name
outside_in known (s.Values sides) = variable_unless known (are_values_within known sides)
outside_in known line = outside_declaration known line

-- what the limits on a text give: a value has no more items, and no greater factors, than may be
abbrev pub is_small_side : DraftSide → Bool
is_small_side side = nat_le (length side.items) ITEM_LIMIT && list_all is_narrow_item side.items

-- ---- wide: the bound of a side is above its limit

abbrev pub wide_in : Known → Statement → Option Name
wide_in known (s.Row modes cells) = variable_unless known (list_all (is_narrow_cell known) cells)
wide_in known (s.Values sides) = variable_unless known (list_all (is_narrow_side known) sides)
wide_in known (s.Transition source target e) = variable_unless known (is_narrow_event known e)
wide_in known line = None

-- ---- mode: a name is no mode of the table's class, a mode comes twice or is missing

abbrev pub mode_in : Known → Statement → Option Name
mode_in known (s.Row modes cells) = bad_mode known modes
mode_in known (s.Transition source target e) = bad_transition known source target
mode_in known s.End = missing_mode known
mode_in known line = None

-- ---- table: a line does not fit its table, or a dependent variable has none

abbrev pub table_in : Known → Statement → Option Name
table_in known (s.Head heading n class) = unless (is_head_placed known heading n) n
table_in known (s.Row modes cells) = variable_unless known (is_row_placed known modes cells)
table_in known (s.Values sides) = variable_unless known (are_values_placed known sides)
table_in known s.Finish = first_bare known.tables 0 known.variables
table_in known line = None

-- ---- the first kind that refuses

abbrev pub Fault : Type 0
Fault = TypeKind × Name

abbrev pub as_kind : TypeKind → Option Name → Option Fault
as_kind kind name = option_map (λ n. (kind, n)) name

-- on one line the kinds are tried in this order
unfoldable pub fault_in : Known → Statement → Option Fault
fault_in known line =
    option_or (as_kind k.Duplicate (duplicate_in known line))
    (option_or (as_kind k.Unknown (unknown_in known line))
    (option_or (as_kind k.Kind (ill_in known line))
    (option_or (as_kind k.Range (outside_in known line))
    (option_or (as_kind k.Wide (wide_in known line))
    (option_or (as_kind k.Mode (mode_in known line))
    (as_kind k.Table (table_in known line)))))))

-- ---- the state after a line

unfoldable pub after : Known → Statement → Known
after known (s.Head heading n class) = with_head known heading n class
after known (s.Row modes cells) = with_row known modes cells
after known (s.Values sides) = with_values known sides
after known (s.Transition source target e) = with_transition known source target e
after known s.End = with_end known
after known line = with_declaration known line
