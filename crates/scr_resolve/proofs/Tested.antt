-- What the lines of a table that have no fault tell of their cells.
use Rattle.std.proofs.Common.{◌≡◌, Bool, true, false, ◌&&◌, List, [], ◌∷◌, Option, Some, None, refl, sym, ap, ◌∙◌}
use Rattle.std.specs.Prelude.{if◌then◌else◌, nat_le, length, slice_get}
use Rattle.std.specs.Option.{option_map, option_map_or, option_and_then}
use Rattle.std.specs.List.{list_all}
use Rattle.std.proofs.lemmas.Bool.{and_parts}
use Rattle.scr_spec.specs.declared.spec.Variable.{Variable}
use Rattle.scr_spec.specs.declared.table.Table.{Table}
use Rattle.scr_spec.specs.NameSpace.{is_name}
use Rattle.scr_spec.specs.Tables.{is_headed}
use Rattle.scr_parse.specs.declared.draft.DraftCell.{DraftCell}
use Rattle.scr_parse.specs.declared.draft.DraftEvent.{DraftEvent}
use Rattle.scr_parse.specs.declared.draft.Statement.TheVariants as s
use Rattle.scr_parse.specs.declared.place.Place.{Place}
use Rattle.scr_parse.specs.declared.place.Counts.{Counts}
use Rattle.scr_parse.specs.Limits.{is_cell_within}
use Rattle.scr_parse.specs.Nesting.{is_cell_shallow}
use Rattle.scr_parse.specs.Readable.{are_some, is_cell_spelt, is_event_spelt}
use Rattle.scr_scope.proofs.KeptCells.{EventTests, CellTests}
use Rattle.scr_scope.proofs.KeptForms.{some_all}
use Rattle.scr_scope.specs.declared.known.Known.{Known}
use Rattle.scr_scope.specs.Names.{Name}
use Rattle.scr_scope.specs.Events.{is_typed_event, is_typed_cell, is_narrow_event, is_narrow_cell}
use Rattle.scr_resolve.specs.Tables.{variable_unless}
use Rattle.scr_resolve.proofs.Opened.{Here}
use Rattle.scr_resolve.proofs.TableRules.{At}

told_by : (o : Option Variable) (test : Variable → Bool) (right : Bool) → option_map_or test o false ≡ true → (if right then None else option_map (λ x. x.name) o) ≡ None → right ≡ true
told_by o test true h e = refl
told_by None test false h e = absurd (cc)
told_by (Some x) test false h e = absurd (cc)

-- the table's variable is there, so it is named wherever something is wrong
pub right : (place : Place) (known : Known) (t : Table) → Here place known t → (b : Bool) → variable_unless known b ≡ None → b ≡ true
right place known t here b e =
    told_by (slice_get known.variables t.variable) (is_headed t.heading) b here.head
    (sym (ap (λ o. if b then None else option_map (λ (x : Variable). x.name) (option_and_then (λ (u : Table). slice_get known.variables u.variable) o)) here.is) ∙ e)

-- each cell of the row passes all tests
pub data AllTested (known : Known) : List DraftCell → Type 0 where
  no_cell : AllTested known []
  cell_more : {d : DraftCell} {ds : List DraftCell} → CellTests known d → AllTested known ds → AllTested known (d ∷ ds)

all_tested : (known : Known) (ds : List DraftCell) → list_all is_cell_within ds ≡ true → list_all is_cell_spelt ds ≡ true → list_all is_cell_shallow ds ≡ true → list_all (is_typed_cell known) ds ≡ true
    → list_all (is_narrow_cell known) ds ≡ true → AllTested known ds
all_tested known [] h i j k l = no_cell
all_tested known (d ∷ ds) h i j k l =
    let a = and_parts (is_cell_within d) (list_all is_cell_within ds) h in
    let b = and_parts (is_cell_spelt d) (list_all is_cell_spelt ds) i in
    let c = and_parts (is_cell_shallow d) (list_all is_cell_shallow ds) j in
    let e = and_parts (is_typed_cell known d) (list_all (is_typed_cell known) ds) k in
    let f = and_parts (is_narrow_cell known d) (list_all (is_narrow_cell known) ds) l in
    cell_more (record { within = a.0; spelt = b.0; shallow = c.0; typed = e.0; narrow = f.0 }) (all_tested known ds (a.1) (b.1) (c.1) (e.1) (f.1))

pub row_spelt : (modes : List Name) (cells : List DraftCell) → (list_all is_name modes && are_some is_cell_spelt cells && nat_le (length cells) 16) ≡ true → are_some is_cell_spelt cells ≡ true
row_spelt modes cells h = (and_parts (list_all is_name modes) (are_some is_cell_spelt cells) ((and_parts (list_all is_name modes && are_some is_cell_spelt cells) (nat_le (length cells) 16) h).0)).1

pub row_tests : (place next : Place) (counts : Counts) (known : Known) (t : Table) (modes : List Name) (cells : List DraftCell) → At place next counts known t (s.Row modes cells) → AllTested known cells
row_tests place next counts known t modes cells at =
    all_tested known cells ((and_parts (nat_le (length modes) 64) (list_all is_cell_within cells) at.read.within).1) (some_all is_cell_spelt cells (row_spelt modes cells at.read.spelt)) at.read.shallow
    (right place known t at.here (list_all (is_typed_cell known) cells) at.read.passes.ill) (right place known t at.here (list_all (is_narrow_cell known) cells) at.read.passes.wide)

pub transition_tests : (place next : Place) (counts : Counts) (known : Known) (t : Table) (source target : Name) (e : DraftEvent) → At place next counts known t (s.Transition source target e) → EventTests known e
transition_tests place next counts known t source target e at = record {
  within = at.read.within;
  spelt = (and_parts (is_name source && is_name target) (is_event_spelt e) at.read.spelt).1;
  shallow = at.read.shallow;
  typed = right place known t at.here (is_typed_event known e) at.read.passes.ill;
  narrow = right place known t at.here (is_narrow_event known e) at.read.passes.wide;
}
