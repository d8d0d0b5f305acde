-- The rows of a mode table, as its FROM lines grouped by source and target.
use Rattle.std.specs.Prelude.{◌≡◌, ℤ, List, [], ◌∷◌, map, Some}
use Rattle.std.specs.Ordering.{int_eq}
use Rattle.std.specs.List.{filter, flat_map, fold}
use Rattle.scr_spec.specs.declared.table.Cell.{Cell}
use Rattle.scr_spec.specs.declared.table.Cell.TheVariants as cell
use Rattle.scr_spec.specs.declared.table.Event.{Event}
use Rattle.scr_spec.specs.declared.table.Row.{Row}
use Rattle.scr_spec.specs.declared.table.Table.{Table}
use Rattle.scr_parse.specs.declared.draft.DraftEvent.{DraftEvent}
use Rattle.scr_scope.specs.declared.known.Known.{Known}
use Rattle.scr_scope.specs.Names.{Name}
use Rattle.scr_scope.specs.Events.{event_of}
use Rattle.scr_resolve.specs.Built.{mode_code, targets_with, with_transition}

-- what a FROM line says: the codes of its source and its target, and its event
pub record Transition : Type 0 where
  pub source : ℤ
  pub target : ℤ
  pub event : Event

-- the codes in order of their first appearance, each once
abbrev pub firsts : List ℤ → List ℤ
firsts codes = fold (λ seen code. targets_with code seen) [] codes

-- the lines of this source, and those to this target
abbrev pub from_source : ℤ → List Transition → List Transition
from_source source lines = filter (λ line. int_eq source line.source) lines

abbrev pub to_target : ℤ → List Transition → List Transition
to_target target lines = filter (λ line. int_eq target line.target) lines

-- the events of the lines, joined by OR in their order
abbrev pub cell_of_lines : List Transition → Cell
cell_of_lines lines = cell.Event (record { prims = flat_map (λ line. line.event.prims) lines })

-- the targets of the lines, in order of their first appearance
abbrev pub targets_of : List Transition → List ℤ
targets_of lines = firsts (map (λ line. line.target) lines)

-- the row of a source, of whose lines each target has a cell
abbrev pub row_of_lines : List Transition → ℤ → Row
row_of_lines own source =
    record { modes = source ∷ []; cells = map (λ target. cell_of_lines (to_target target own)) (targets_of own); targets = targets_of own }

-- the sources have a row each, in order of their first appearance
abbrev pub grouped : List Transition → List Row
grouped lines = map (λ source. row_of_lines (from_source source lines) source) (firsts (map (λ line. line.source) lines))

-- a FROM line as it is written
pub record FromLine : Type 0 where
  pub source : Name
  pub target : Name
  pub event : DraftEvent

-- what it says where these are known
abbrev pub said : Known → FromLine → Transition
said known line = record { source = mode_code known line.source; target = mode_code known line.target; event = event_of known line.event }

-- the lines so far, with a table that has these rows
abbrev pub at_table : Known → Table → List Row → Known
at_table known table rows = record known { current = Some (record table { rows = rows }) }

-- the FROM lines of a table give it their rows, grouped
pub record RowsAreGrouped : Type 0 where
  pub rows : (known : Known) (table : Table) (lines : List FromLine)
      → fold (λ known line. with_transition known line.source line.target line.event) (at_table known table []) lines
      ≡ at_table known table (grouped (map (said (at_table known table [])) lines))
