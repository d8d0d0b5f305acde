-- Each column of a condition or event table has a value, and the cells of a mode table are no more than its lines.
use Rattle.std.proofs.Common.{◌≡◌, ℕ, ◌≤◌, Bool, true, false, ◌&&◌, List, [], ◌∷◌, ◌++◌, length, Some, refl, sym, ap, subst, ◌∙◌, arith}
use Rattle.std.specs.Option.{option_map_or}
use Rattle.std.specs.List.{list_all}
use Rattle.std.proofs.lemmas.Bool.{and_parts, leb-true, le-leb, eqb-true, eq-eqb}
use Rattle.std.proofs.lemmas.List.{length-map}
use Rattle.scr_spec.specs.Data.{Data}
use Rattle.scr_spec.specs.declared.cond.Expr.{Expr}
use Rattle.scr_spec.specs.declared.table.Heading.{Heading}
use Rattle.scr_spec.specs.declared.table.Heading.TheVariants as h
use Rattle.scr_spec.specs.declared.table.Row.{Row}
use Rattle.scr_spec.specs.declared.table.Table.{Table}
use Rattle.scr_spec.specs.Tables.{has_width, is_laid_out, is_layout_sound}
use Rattle.scr_spec.proofs.Passing.{and_true}
use Rattle.scr_parse.specs.declared.draft.DraftCell.{DraftCell}
use Rattle.scr_parse.specs.declared.draft.DraftSide.{DraftSide}
use Rattle.scr_parse.specs.declared.place.Place.{Place}
use Rattle.scr_parse.specs.declared.place.Place.TheVariants as p
use Rattle.scr_parse.specs.declared.place.Counts.{Counts}
use Rattle.scr_parse.specs.Limits.{is_count_within}
use Rattle.scr_parse.specs.Forms.{may_end}
use Rattle.scr_parse.specs.Readable.{head_place}
use Rattle.scr_scope.proofs.KeptValues.{has_values}
use Rattle.scr_scope.specs.declared.known.Known.{Known}
use Rattle.scr_scope.specs.Names.{Name}
use Rattle.scr_scope.specs.Sides.{side_of}
use Rattle.scr_scope.specs.Events.{event_of, cell_of}
use Rattle.scr_resolve.specs.Tables.{is_count, are_modes_placed, is_row_placed, are_values_placed}
use Rattle.scr_resolve.specs.Built.{mode_code, row_of}
use Rattle.scr_resolve.proofs.Grown.{push_all}
use Rattle.scr_resolve.proofs.Transitions.{cell_count, rows_more}
use Rattle.scr_resolve.proofs.CountsKept.{few_rows}
use Rattle.scr_resolve.proofs.Opened.{IsOpenAt, apart}
use Rattle.scr_resolve.proofs.TableRules.{TableRule}
use Rattle.scr_resolve.proofs.Tested.{right}

-- the values stand
abbrev is_closed : Place → Bool
is_closed p.Start = false
is_closed p.Declarations = false
is_closed (p.FirstRow heading) = false
is_closed (p.Rows heading) = false
is_closed p.Closed = true
is_closed p.Transitions = false
is_closed p.Tables = false
is_closed p.After = false

pub record LaidOut (place : Place) (counts : Counts) (spec : Data) (t : Table) : Type 0 where
  pub widths : has_values t.heading ≡ true → (n : ℕ) → is_count t.rows n ≡ true → list_all (has_width n) t.rows ≡ true
  pub valued : is_closed place ≡ true → is_count t.rows (length t.values) ≡ true
  pub few : t.heading ≡ h.Modes → cell_count t.rows ≤ counts.rows
  pub counts_within : is_count_within counts ≡ true

head_unclosed : (heading : Heading) → is_closed (head_place heading) ≡ false
head_unclosed h.Condition = refl
head_unclosed h.Event = refl
head_unclosed h.Modes = refl

pub modes_apart : {A : Type 0} (heading : Heading) → heading ≡ h.Modes → has_values heading ≡ true → A
modes_apart heading e v = apart v (ap has_values e)

-- a row as wide as the first one
width_more : (rows : List Row) (row : Row) (m n : ℕ) → length row.cells ≡ m → is_count rows m ≡ true → (is_count rows n ≡ true → list_all (has_width n) rows ≡ true) → is_count (rows ++ row ∷ []) n ≡ true
    → list_all (has_width n) (rows ++ row ∷ []) ≡ true
width_more [] row m n e c w i = and_true _ _ i refl
width_more (r ∷ rows) row m n e c w i =
    let first : length r.cells ≡ m = eqb-true _ _ c in
    let wide : length r.cells ≡ n = eqb-true _ _ i in
    push_all (has_width n) (r ∷ rows) row (w i) (eq-eqb _ _ (e ∙ sym first ∙ wide))

row_counts : (known : Known) (t : Table) (modes : List Name) (cells : List DraftCell) → known.current ≡ Some t → is_row_placed known modes cells ≡ true → is_count t.rows (length cells) ≡ true
row_counts known t modes cells e i =
    let here : (are_modes_placed t.class t.rows modes && is_count t.rows (length cells)) ≡ true =
    sym (ap (λ o. option_map_or (λ (u : Table). are_modes_placed u.class u.rows modes && is_count u.rows (length cells)) o true) e) ∙ i in
    (and_parts (are_modes_placed t.class t.rows modes) (is_count t.rows (length cells)) here).1

values_count : (known : Known) (t : Table) (sides : List DraftSide) → known.current ≡ Some t → are_values_placed known sides ≡ true → is_count t.rows (length sides) ≡ true
values_count known t sides e i = sym (ap (λ o. option_map_or (λ (u : Table). is_count u.rows (length sides)) o true) e) ∙ i

plain_laid : (heading : Heading) (rows : List Row) (values : List Expr) → has_values heading ≡ true → 1 ≤ length rows → list_all (has_width (length values)) rows ≡ true → is_laid_out heading rows values ≡ true
plain_laid h.Condition rows values v some w = and_true _ _ (le-leb 1 (length rows) some) w
plain_laid h.Event rows values v some w = and_true _ _ (le-leb 1 (length rows) some) w
plain_laid h.Modes rows values v some w = absurd (cc)

modes_laid : (heading : Heading) (rows : List Row) (values : List Expr) → heading ≡ h.Modes → values ≡ [] → cell_count rows ≤ 64 → is_laid_out heading rows values ≡ true
modes_laid heading rows values e v few =
    subst (λ q. is_laid_out q rows values ≡ true) (sym e) (subst (λ l. is_laid_out h.Modes rows l ≡ true) (sym v) (and_true _ _ refl (le-leb (cell_count rows) 64 few)))

closed_laid : (place : Place) (counts : Counts) (spec : Data) (t : Table) → may_end place ≡ true → IsOpenAt place t → LaidOut place counts spec t → is_layout_sound t ≡ true
closed_laid p.Start counts spec t i a o = absurd (cc)
closed_laid p.Declarations counts spec t i a o = absurd (cc)
closed_laid (p.FirstRow heading) counts spec t i a o = absurd (cc)
closed_laid (p.Rows heading) counts spec t i a o = absurd (cc)
closed_laid p.Closed counts spec t i a o = plain_laid t.heading t.rows t.values a.0 a.1 (o.widths a.0 (length t.values) (o.valued refl))
closed_laid p.Transitions counts spec t i a o =
    let few = o.few a.0 in
    let lines = leb-true counts.rows 64 (few_rows counts o.counts_within) in
    modes_laid t.heading t.rows t.values a.0 a.1 (omega arith)
closed_laid p.Tables counts spec t i a o = absurd (cc)
closed_laid p.After counts spec t i a o = absurd (cc)

pub layout_rule : TableRule (λ spec. is_layout_sound) LaidOut
layout_rule = record {
  head = λ place counts known heading n class t b. record { widths = λ v k i. refl; valued = λ i. apart i (head_unclosed heading); few = λ i. omega arith; counts_within = t.few };
  row = λ place counts known t heading modes cells i v l at o. record {
    widths = λ w k j.
        width_more t.rows (row_of known modes cells) (length cells) k (length-map cells (cell_of known))
        (row_counts known t modes cells at.here.is (right place known t at.here (is_row_placed known modes cells) at.read.passes.table)) (o.widths w k) j;
    valued = λ j. apart j refl;
    few = λ j. modes_apart t.heading j (subst (λ q. has_values q ≡ true) (sym i) v);
    counts_within = at.read.few;
  };
  values = λ counts known t heading sides at o. record {
    widths = o.widths;
    valued = λ j.
        subst (λ k. is_count t.rows k ≡ true) (sym (length-map sides (side_of known)))
        (values_count known t sides at.here.is (right _ known t at.here (are_values_placed known sides) at.read.passes.table));
    few = o.few;
    counts_within = at.read.few;
  };
  transition = λ counts known t source target e at o. record {
    widths = λ w. modes_apart t.heading at.here.at.0 w;
    valued = λ j. apart j refl;
    few = λ j. let more = rows_more (mode_code known source) (mode_code known target) (event_of known e) t.rows in let before = o.few j in omega arith;
    counts_within = at.read.few;
  };
  close = λ place counts known t i at o. closed_laid place counts _ t i at.here.at o;
}
