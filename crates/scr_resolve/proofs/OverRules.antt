-- What each table names is there, and its rows and sides are within the limits.
use Rattle.std.proofs.Common.{◌≡◌, ℕ, ◌<◌, ◌≤◌, ℤ, pos, Bool, true, false, ◌&&◌, if◌then◌else◌, List, [], ◌∷◌, ◌++◌, map, length, Option, Some, None, refl, sym, ap, subst, ◌∙◌, arith}
use Rattle.std.specs.Prelude.{nat_eq, nat_lt, nat_le, int_le, int_lt, slice_get}
use Rattle.std.specs.Option.{option_map_or, option_and_then}
use Rattle.std.specs.Ordering.{int_eq}
use Rattle.std.specs.List.{list_all, list_any}
use Rattle.std.proofs.lemmas.Bool.{and_parts, leb-true, le-leb, eqb-true}
use Rattle.std.proofs.lemmas.Int.{ints}
use Rattle.std.proofs.lemmas.List.{length-append, length-map}
use Rattle.std.proofs.lemmas.List.Folds.{list_all-append}
use Rattle.std.proofs.lemmas.List.Sums.{sum_by-cons}
use Rattle.scr_spec.specs.Data.{Data}
use Rattle.scr_spec.specs.declared.cond.Owner.TheVariants as owner
use Rattle.scr_spec.specs.declared.spec.Kind.{Kind}
use Rattle.scr_spec.specs.declared.spec.Kind.TheVariants as kind
use Rattle.scr_spec.specs.declared.spec.Variable.{Variable}
use Rattle.scr_spec.specs.declared.table.Cell.{Cell}
use Rattle.scr_spec.specs.declared.table.Cell.TheVariants as cell
use Rattle.scr_spec.specs.declared.table.Event.{Event}
use Rattle.scr_spec.specs.declared.table.Heading.{Heading}
use Rattle.scr_spec.specs.declared.table.Heading.TheVariants as h
use Rattle.scr_spec.specs.declared.table.Row.{Row}
use Rattle.scr_spec.specs.declared.table.Table.{Table}
use Rattle.scr_spec.specs.Roles.{is_class_role}
use Rattle.scr_spec.specs.Types.{is_narrow, is_list_sound, is_kind_sound, kind_modes}
use Rattle.scr_spec.specs.Over.{is_place, is_side_over}
use Rattle.scr_spec.specs.Events.{is_prim_over, is_event_over}
use Rattle.scr_spec.specs.Cells.{is_cell_over, is_class_over, is_row_over, greatest_width, is_table_over}
use Rattle.scr_spec.specs.Tables.{is_headed, is_class_at, is_over_class}
use Rattle.scr_spec.specs.NameSpace.{is_name}
use Rattle.scr_spec.proofs.Passing.{and_true}
use Rattle.scr_parse.specs.declared.draft.DraftCell.{DraftCell}
use Rattle.scr_parse.specs.declared.draft.DraftSide.{DraftSide}
use Rattle.scr_parse.specs.declared.place.Place.{Place}
use Rattle.scr_parse.specs.declared.place.Counts.{Counts}
use Rattle.scr_parse.specs.Limits.{is_count_within}
use Rattle.scr_parse.specs.Readable.{are_some, is_cell_spelt, is_side_spelt}
use Rattle.scr_scope.proofs.ThereAfter.{no_place}
use Rattle.scr_scope.proofs.There.{is_there, NamesThere, meant_there}
use Rattle.scr_scope.proofs.KeptForms.{some_all}
use Rattle.scr_scope.proofs.KeptOver.{side_over_kept}
use Rattle.scr_scope.proofs.KeptValues.{has_values}
use Rattle.scr_scope.proofs.KeptCells.{cell_over_kept, event_over_kept}
use Rattle.scr_scope.specs.declared.known.Known.{Known}
use Rattle.scr_scope.specs.declared.meaning.Meaning.{Meaning}
use Rattle.scr_scope.specs.declared.meaning.Meaning.TheVariants as m
use Rattle.scr_scope.specs.Names.{Name}
use Rattle.scr_scope.specs.Meanings.{seen, meant}
use Rattle.scr_scope.specs.Sides.{is_narrow_side, side_of}
use Rattle.scr_scope.specs.Events.{event_of, cell_of}
use Rattle.scr_resolve.specs.Tables.{mode_meant, mode_named, current_class}
use Rattle.scr_resolve.specs.Built.{mode_code, joined, targets_with, row_with, row_of}
use Rattle.scr_resolve.proofs.Grown.{there_get, push_all, all_at}
use Rattle.scr_resolve.proofs.Transitions.{cells_all, rows_all, cell_count, rows_more, rows_longer}
use Rattle.scr_resolve.proofs.CountsKept.{few_rows}
use Rattle.scr_resolve.proofs.VariablesKept.{is_kept, kept_parts, VariablesKept}
use Rattle.scr_resolve.proofs.Opened.{core, Here}
use Rattle.scr_resolve.proofs.TableRules.{TableRule}
use Rattle.scr_resolve.proofs.Tested.{AllTested, no_cell, cell_more, right, row_tests, transition_tests}
use Rattle.scr_resolve.proofs.ColumnRules.{modes_apart}

-- ---- modes

-- a place in a list of at most 64 names
small_place : (names : List Name) (place : ℕ) → is_list_sound names ≡ true → is_place names (pos place) ≡ true → is_narrow (pos place) ≡ true
small_place names place h k =
    let few = leb-true (length names) 64 ((and_parts (nat_le 1 (length names)) (nat_le (length names) 64) h).1) in
    let below = (and_parts (int_le (pos 0) (pos place)) (int_lt (pos place) (pos (length names))) k).1 in
    let under : place < length names = grind (arith, ints) in
    le-leb place 1000000 (omega arith)

mode_by : (known : Known) (kind : Kind) (place : ℕ) → is_kind_sound known.types kind ≡ true → is_place (kind_modes kind) (pos place) ≡ true → is_narrow (pos place) ≡ true
mode_by known kind.Boolean place h k = no_place place k
mode_by known (kind.Named j) place h k = no_place place k
mode_by known (kind.Modes names) place h k = small_place names place h k

class_by : (known : Known) (w place : ℕ) (o : Option Variable) → VariablesKept known → slice_get known.variables w ≡ o → is_place (option_map_or (λ x. kind_modes x.kind) o []) (pos place) ≡ true → is_narrow (pos place) ≡ true
class_by known w place None v e k = no_place place k
class_by known w place (Some x) v e k = mode_by known x.kind place (kept_parts known.types x (all_at (is_kept known.types) known.variables w x v.variables e)).kind k

own_by : (known : Known) (w place : ℕ) (b : Bool) → is_narrow (pos place) ≡ true → is_narrow (option_map_or pos (if b then Some place else None) (pos 0)) ≡ true
own_by known w place true h = h
own_by known w place false h = refl

meaning_narrow : (known : Known) (v : ℕ) (o : Option Meaning) → VariablesKept known → option_map_or (is_there (seen known)) o true ≡ true → is_narrow (option_map_or pos (option_and_then (mode_meant v) o) (pos 0)) ≡ true
meaning_narrow known v None k h = refl
meaning_narrow known v (Some (m.Type j)) k h = refl
meaning_narrow known v (Some (m.Constant j)) k h = refl
meaning_narrow known v (Some (m.Label (owner.Named j) place)) k h = refl
meaning_narrow known v (Some (m.Label (owner.Class w) place)) k h = own_by known w place (nat_eq v w) (class_by known w place (slice_get known.variables w) k refl h)
meaning_narrow known v (Some (m.Variable w)) k h = refl

-- the code of a mode is narrow
mode_narrow : (known : Known) → VariablesKept known → (n : Name) → is_narrow (mode_code known n) ≡ true
mode_narrow known k n = by (current_class known)
  where
    by : (o : Option ℕ) → is_narrow (option_map_or pos (option_and_then (λ v. mode_named known v n) o) (pos 0)) ≡ true
    by None = refl
    by (Some v) = meaning_narrow known v (meant known n) k (meant_there known k.names n)

modes_narrow : (known : Known) → VariablesKept known → (ns : List Name) → list_all is_narrow (map (mode_code known) ns) ≡ true
modes_narrow known k [] = refl
modes_narrow known k (n ∷ ns) = and_true _ _ (mode_narrow known k n) (modes_narrow known k ns)

all_targets : (q : ℤ → Bool) (target : ℤ) (targets : List ℤ) → q target ≡ true → list_all q targets ≡ true → list_all q (targets_with target targets) ≡ true
all_targets q target targets g h = by (list_any (int_eq target) targets)
  where
    by : (b : Bool) → list_all q (if b then targets else targets ++ target ∷ []) ≡ true
    by true = h
    by false = push_all q targets target h g

-- ---- rows

cells_over : (known : Known) → NamesThere known → (ds : List DraftCell) → AllTested known ds → list_all (is_cell_over (core known)) (map (cell_of known) ds) ≡ true
cells_over known n [] no_cell = refl
cells_over known n (d ∷ ds) (cell_more t ts) = and_true _ _ (cell_over_kept known n d t) (cells_over known n ds ts)

joined_over : (spec : Data) (e : Event) (c : Cell) → is_event_over spec e ≡ true → is_cell_over spec c ≡ true → is_cell_over spec (joined c e) ≡ true
joined_over spec e (cell.Cond d) i k = i
joined_over spec e (cell.Event f) i k = list_all-append (is_prim_over spec) f.prims e.prims ∙ and_true _ _ k i

row_more : (spec : Data) (target : ℤ) (e : Event) (row : Row) → is_event_over spec e ≡ true → is_narrow target ≡ true → is_row_over spec row ≡ true → is_row_over spec (row_with target e row) ≡ true
row_more spec target e row i n k =
    let a = and_parts (list_all (is_cell_over spec) row.cells && list_all is_narrow row.modes) (list_all is_narrow row.targets) k in
    let b = and_parts (list_all (is_cell_over spec) row.cells) (list_all is_narrow row.modes) (a.0) in
    and_true _ _ (and_true _ _ (cells_all (is_cell_over spec) target e (λ c g. joined_over spec e c i g) i row.targets row.cells (b.0)) (b.1)) (all_targets is_narrow target row.targets n (a.1))

sides_over : (known : Known) → NamesThere known → (sides : List DraftSide) → list_all (is_side_spelt true) sides ≡ true → list_all (is_narrow_side known) sides ≡ true
    → list_all (is_side_over (core known)) (map (side_of known) sides) ≡ true
sides_over known n [] i k = refl
sides_over known n (side ∷ sides) i k =
    let a = and_parts (is_side_spelt true side) (list_all (is_side_spelt true) sides) i in
    let b = and_parts (is_narrow_side known side) (list_all (is_narrow_side known) sides) k in
    and_true _ _ (side_over_kept known n true side (a.0) (b.0)) (sides_over known n sides (a.1) (b.1))

-- ---- the table

abbrev fits : ℕ → Row → Bool
fits n r = nat_le (length r.cells) n

pub record Over (place : Place) (counts : Counts) (spec : Data) (t : Table) : Type 0 where
  pub rows : list_all (is_row_over spec) t.rows ≡ true
  pub values : list_all (is_side_over spec) t.values ≡ true
  pub widths : has_values t.heading ≡ true → list_all (fits 16) t.rows ≡ true
  pub cells : t.heading ≡ h.Modes → cell_count t.rows ≤ counts.rows
  pub lines : length t.rows ≤ counts.rows
  pub counts_within : is_count_within counts ≡ true

-- a row has no more cells than all rows
fits_all : (rows : List Row) (n : ℕ) → cell_count rows ≤ n → list_all (fits n) rows ≡ true
fits_all [] n h = refl
fits_all (r ∷ rows) n h =
    let sum = sum_by-cons (λ (r : Row). length r.cells) r rows in
    let first : length r.cells ≤ n = omega arith in
    let rest : cell_count rows ≤ n = omega arith in
    and_true _ _ (le-leb (length r.cells) n first) (fits_all rows n rest)

width_by : (heading : Heading) (rows : List Row) → (has_values heading ≡ true → list_all (fits 16) rows ≡ true) → (heading ≡ h.Modes → list_all (fits 64) rows ≡ true) → list_all (fits (greatest_width heading)) rows ≡ true
width_by h.Condition rows f g = f refl
width_by h.Event rows f g = f refl
width_by h.Modes rows f g = g refl

-- the class, where there is one
class_at : (spec : Data) (v : ℕ) (o : Option Variable) → slice_get spec.variables v ≡ o → option_map_or (λ x. is_class_role x.role) o false ≡ true → nat_lt v (length spec.variables) ≡ true
class_at spec v None e h = absurd (cc)
class_at spec v (Some x) e h = there_get spec.variables v x e

plain_class : (spec : Data) (o : Option ℕ) → option_map_or (is_class_at spec) o true ≡ true → is_class_over spec o ≡ true
plain_class spec None h = refl
plain_class spec (Some v) h = class_at spec v (slice_get spec.variables v) refl h

class_over : (spec : Data) (heading : Heading) (v : ℕ) (o : Option ℕ) → is_over_class spec heading v o ≡ true → nat_lt v (length spec.variables) ≡ true → is_class_over spec o ≡ true
class_over spec h.Condition v o h k = plain_class spec o h
class_over spec h.Event v o h k = plain_class spec o h
class_over spec h.Modes v None h k = absurd (cc)
class_over spec h.Modes v (Some w) h k = ap (λ i. nat_lt i (length spec.variables)) (sym (eqb-true v w h)) ∙ k

own_variable : (spec : Data) (heading : Heading) (v : ℕ) (o : Option Variable) → slice_get spec.variables v ≡ o → option_map_or (is_headed heading) o false ≡ true → nat_lt v (length spec.variables) ≡ true
own_variable spec heading v None e h = absurd (cc)
own_variable spec heading v (Some x) e h = there_get spec.variables v x e

table_over : (place : Place) (counts : Counts) (known : Known) (t : Table) → Here place known t → Over place counts (core known) t → is_table_over (core known) t ≡ true
table_over place counts known t here o =
    let there = own_variable (core known) t.heading t.variable (slice_get known.variables t.variable) refl here.head in
    let most = leb-true counts.rows 64 (few_rows counts o.counts_within) in
    let lines = o.lines in
    and_true _ _ (and_true _ _ (and_true _ _ (and_true _ _ (class_over (core known) t.heading t.variable t.class here.class there) o.rows) there) o.values)
    (and_true _ _ (le-leb (length t.rows) 64 (omega arith)) (width_by t.heading t.rows o.widths (λ e. let cells = o.cells e in fits_all t.rows 64 (omega arith))))

pub over_rule : TableRule is_table_over Over
over_rule = record {
  head = λ place counts known heading n class t b. record { rows = refl; values = refl; widths = λ v. refl; cells = λ e. omega arith; lines = omega arith; counts_within = t.few };
  row = λ place counts known t heading modes cells i v l at o.
      let spelt = and_parts (list_all is_name modes && are_some is_cell_spelt cells) (nat_le (length cells) 16) at.read.spelt in
      let more = length-append t.rows (row_of known modes cells ∷ []) in
      let before = o.lines in
      record {
        rows = push_all (is_row_over (core known)) t.rows (row_of known modes cells) o.rows
            (and_true _ _ (and_true _ _ (cells_over known at.base.variables.names cells (row_tests place _ counts known t modes cells at)) (modes_narrow known at.base.variables modes)) refl);
        values = o.values;
        widths = λ w. push_all (fits 16) t.rows (row_of known modes cells) (o.widths w) (ap (λ k. nat_le k 16) (length-map cells (cell_of known)) ∙ spelt.1);
        cells = λ e. modes_apart t.heading e (subst (λ q. has_values q ≡ true) (sym i) v);
        lines = omega arith;
        counts_within = at.read.few;
      };
  values = λ counts known t heading sides at o. record {
    rows = o.rows;
    values = sides_over known at.base.variables.names sides (some_all (is_side_spelt true) sides ((and_parts (are_some (is_side_spelt true) sides) (nat_le (length sides) 16) at.read.spelt).0))
        (right _ known t at.here (list_all (is_narrow_side known) sides) at.read.passes.wide);
    widths = o.widths;
    cells = o.cells;
    lines = o.lines;
    counts_within = at.read.few;
  };
  transition = λ counts known t source target e at o.
      let over = event_over_kept known at.base.variables.names e (transition_tests _ _ counts known t source target e at) in
      let narrow = mode_narrow known at.base.variables target in
      let more = rows_more (mode_code known source) (mode_code known target) (event_of known e) t.rows in
      let longer = rows_longer (mode_code known source) (mode_code known target) (event_of known e) t.rows in
      let before = o.lines in
      record {
        rows = rows_all (is_row_over (core known)) (mode_code known source) (mode_code known target) (event_of known e) (λ row has g. row_more (core known) (mode_code known target) (event_of known e) row over narrow g)
            (and_true _ _ (and_true _ _ (and_true _ _ over refl) (and_true _ _ (mode_narrow known at.base.variables source) refl)) (and_true _ _ narrow refl)) t.rows o.rows;
        values = o.values;
        widths = λ w. modes_apart t.heading at.here.at.0 w;
        cells = λ f. let cells = o.cells f in omega arith;
        lines = omega arith;
        counts_within = at.read.few;
      };
  close = λ place counts known t i at o. table_over place counts known t at.here o;
}
