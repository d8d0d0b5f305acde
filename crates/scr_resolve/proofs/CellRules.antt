-- The cells of each table are of its kind, and its columns have values.
use Rattle.std.proofs.Common.{◌≡◌, ◌≤◌, ℤ, Bool, true, false, ◌&&◌, if◌then◌else◌, List, [], ◌∷◌, ◌++◌, map, length, refl, sym, subst, ◌∙◌, arith}
use Rattle.std.specs.Prelude.{nat_le}
use Rattle.std.specs.Ordering.{int_eq}
use Rattle.std.specs.List.{list_all}
use Rattle.std.proofs.lemmas.Bool.{and_parts, leb-true, le-leb}
use Rattle.std.proofs.lemmas.List.{length-append, length-map}
use Rattle.std.proofs.lemmas.List.Folds.{list_all-append}
use Rattle.scr_spec.specs.Data.{Data}
use Rattle.scr_spec.specs.declared.table.Primitive.{Primitive}
use Rattle.scr_spec.specs.declared.table.Cell.{Cell}
use Rattle.scr_spec.specs.declared.table.Cell.TheVariants as cell
use Rattle.scr_spec.specs.declared.table.Event.{Event}
use Rattle.scr_spec.specs.declared.table.Heading.{Heading}
use Rattle.scr_spec.specs.declared.table.Heading.TheVariants as h
use Rattle.scr_spec.specs.declared.table.Row.{Row}
use Rattle.scr_spec.specs.declared.table.Table.{Table}
use Rattle.scr_spec.specs.Formed.{is_prim_formed, is_event_formed}
use Rattle.scr_spec.specs.Tables.{is_cell_formed, is_row_formed, are_cells_formed}
use Rattle.scr_spec.proofs.Passing.{and_true}
use Rattle.scr_parse.specs.declared.draft.DraftCell.{DraftCell}
use Rattle.scr_parse.specs.declared.draft.DraftCell.TheVariants as drawn
use Rattle.scr_parse.specs.declared.place.Place.{Place}
use Rattle.scr_parse.specs.declared.place.Counts.{Counts}
use Rattle.scr_parse.specs.Readable.{is_cell_spelt, is_cell_of}
use Rattle.scr_scope.proofs.KeptForms.{some_all, some_one}
use Rattle.scr_scope.proofs.KeptCells.{event_formed_kept}
use Rattle.scr_scope.specs.declared.known.Known.{Known}
use Rattle.scr_scope.specs.Names.{Name}
use Rattle.scr_scope.specs.Events.{event_of, cell_of}
use Rattle.scr_resolve.specs.Built.{mode_code, joined, cells_with, row_with, row_of, rows_with}
use Rattle.scr_resolve.proofs.Grown.{push_all}
use Rattle.scr_resolve.proofs.Transitions.{cells_all, rows_all}
use Rattle.scr_resolve.proofs.TableRules.{TableRule}
use Rattle.scr_resolve.proofs.Tested.{row_spelt, transition_tests}

-- ---- cells

cell_made : (known : Known) (heading : Heading) (d : DraftCell) → is_cell_of heading d ≡ true → is_cell_spelt d ≡ true → is_cell_formed heading (cell_of known d) ≡ true
cell_made known h.Condition (drawn.Cond c) i k = refl
cell_made known h.Condition (drawn.Event e) i k = absurd (cc)
cell_made known h.Event (drawn.Cond c) i k = absurd (cc)
cell_made known h.Event (drawn.Event e) i k = event_formed_kept known e k
cell_made known h.Modes (drawn.Cond c) i k = absurd (cc)
cell_made known h.Modes (drawn.Event e) i k = absurd (cc)

cells_made : (known : Known) (heading : Heading) (ds : List DraftCell) → list_all (is_cell_of heading) ds ≡ true → list_all is_cell_spelt ds ≡ true → list_all (is_cell_formed heading) (map (cell_of known) ds) ≡ true
cells_made known heading [] i k = refl
cells_made known heading (d ∷ ds) i k =
    let a = and_parts (is_cell_of heading d) (list_all (is_cell_of heading) ds) i in
    let b = and_parts (is_cell_spelt d) (list_all is_cell_spelt ds) k in
    and_true _ _ (cell_made known heading d (a.0) (b.0)) (cells_made known heading ds (a.1) (b.1))

row_made : (known : Known) (heading : Heading) (modes : List Name) (ds : List DraftCell) → list_all (is_cell_of heading) ds ≡ true → list_all is_cell_spelt ds ≡ true → 1 ≤ length ds
    → is_row_formed heading (row_of known modes ds) ≡ true
row_made known heading modes ds i k n =
    let same : length (map (cell_of known) ds) ≡ length ds = length-map ds (cell_of known) in
    and_true _ _ (le-leb 1 (length (map (cell_of known) ds)) (omega arith)) (cells_made known heading ds i k)

joined_prims : (xs ys : List Primitive) → (nat_le 1 (length ys) && list_all is_prim_formed ys) ≡ true → list_all is_prim_formed xs ≡ true → (nat_le 1 (length (xs ++ ys)) && list_all is_prim_formed (xs ++ ys)) ≡ true
joined_prims xs ys h k =
    let a = and_parts (nat_le 1 (length ys)) (list_all is_prim_formed ys) h in
    let some = leb-true 1 (length ys) (a.0) in
    let n = length-append xs ys in
    and_true _ _ (le-leb 1 (length (xs ++ ys)) (omega arith)) (list_all-append is_prim_formed xs ys ∙ and_true _ _ k (a.1))

joined_formed : (e : Event) (c : Cell) → is_event_formed e ≡ true → is_cell_formed h.Modes c ≡ true → is_cell_formed h.Modes (joined c e) ≡ true
joined_formed e (cell.Cond d) i k = absurd (cc)
joined_formed e (cell.Event f) i k = joined_prims f.prims e.prims i ((and_parts (nat_le 1 (length f.prims)) (list_all is_prim_formed f.prims) k).1)

some_cell : (target : ℤ) (e : Event) (targets : List ℤ) (cells : List Cell) → 1 ≤ length (cells_with target e targets cells)
some_cell target e [] cells = let n = length-append cells (cell.Event e ∷ []) in omega arith
some_cell target e (t ∷ targets) [] = omega arith
some_cell target e (t ∷ targets) (c ∷ cells) = by (int_eq target t)
  where
    by : (b : Bool) → 1 ≤ length (if b then joined c e ∷ cells else c ∷ cells_with target e targets cells)
    by true = omega arith
    by false = omega arith

row_more : (target : ℤ) (e : Event) (row : Row) → is_event_formed e ≡ true → is_row_formed h.Modes row ≡ true → is_row_formed h.Modes (row_with target e row) ≡ true
row_more target e row i k =
    let a = and_parts (nat_le 1 (length row.cells)) (list_all (is_cell_formed h.Modes) row.cells) k in
    and_true _ _ (le-leb 1 (length (cells_with target e row.targets row.cells)) (some_cell target e row.targets row.cells))
    (cells_all (is_cell_formed h.Modes) target e (λ c g. joined_formed e c i g) i row.targets row.cells (a.1))

abbrev pub Formed : Place → Counts → Data → Table → Type 0
Formed place counts spec t = are_cells_formed t ≡ true

pub cells_rule : TableRule (λ spec. are_cells_formed) Formed
cells_rule = record {
  head = λ place counts known heading n class t b. refl;
  row = λ place counts known t heading modes cells i j l at o.
      let spelt = row_spelt modes cells at.read.spelt in
      push_all (is_row_formed t.heading) t.rows (row_of known modes cells) o
      (subst (λ q. is_row_formed q (row_of known modes cells) ≡ true) (sym i) (row_made known heading modes cells l (some_all is_cell_spelt cells spelt) (some_one is_cell_spelt cells spelt)));
  values = λ counts known t heading sides at o. o;
  transition = λ counts known t source target e at o.
      let formed = event_formed_kept known e (transition_tests _ _ counts known t source target e at).spelt in
      subst (λ q. list_all (is_row_formed q) (rows_with (mode_code known source) (mode_code known target) (event_of known e) t.rows) ≡ true) (sym at.here.at.0)
      (rows_all (is_row_formed h.Modes) (mode_code known source) (mode_code known target) (event_of known e) (λ row has g. row_more (mode_code known target) (event_of known e) row formed g)
      (and_true _ _ refl (and_true _ _ formed refl)) t.rows (subst (λ q. list_all (is_row_formed q) t.rows ≡ true) at.here.at.0 o));
  close = λ place counts known t i at o. o;
}
