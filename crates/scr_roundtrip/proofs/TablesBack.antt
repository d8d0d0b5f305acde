-- The lines of a condition or event table resolve to it.
use Rattle.std.proofs.Common.{◌≡◌, ℕ, ◌+◌, pos, Bool, true, false, ◌&&◌, List, [], ◌∷◌, ◌++◌, length, map, Option, Some, None, refl, sym, ap, ◌∙◌}
use Rattle.std.specs.Prelude.{nat_eq, nat_le, nat_lt, if◌then◌else◌}
use Rattle.std.specs.Option.{option_map_or}
use Rattle.std.specs.List.{list_all, range_with_len}
use Rattle.std.proofs.lemmas.Bool.{and_parts}
use Rattle.scr_spec.specs.Data.{Data}
use Rattle.scr_spec.specs.declared.cond.Expr.{Expr}
use Rattle.scr_spec.specs.declared.table.Row.{Row}
use Rattle.scr_spec.specs.declared.table.Heading.{Heading}
use Rattle.scr_spec.specs.declared.table.Heading.TheVariants.{Condition, Event, Modes}
use Rattle.scr_spec.specs.declared.table.Table.{Table}
use Rattle.scr_spec.specs.Over.{modes_of, is_side_over}
use Rattle.scr_spec.specs.Typed.{is_cond_typed}
use Rattle.scr_spec.specs.Parts.{row_passes, conds_pass}
use Rattle.scr_spec.specs.Cells.{is_class_over, is_row_over, is_small, is_table_over}
use Rattle.scr_spec.specs.Tables.{has_table, is_headed, is_head_sound, is_class_sound, are_cells_formed, has_width, is_layout_sound}
use Rattle.scr_spec.specs.RowModes.{are_modes_sound, is_named, is_complete_under, is_complete, are_targets_sound}
use Rattle.scr_spec.specs.Values.{are_values_sound}
use Rattle.scr_spec.specs.Sound.{IsSound}
use Rattle.scr_spec.proofs.Kept.{rules_kept}
use Rattle.scr_parse.specs.declared.draft.Statement.{Statement}
use Rattle.scr_parse.specs.declared.draft.Statement.TheVariants as st
use Rattle.scr_scope.specs.declared.known.Known.{Known}
use Rattle.scr_scope.specs.Names.{Name, NameList}
use Rattle.scr_resolve.specs.Tables.{is_used, first_missing, missing_in, is_count}
use Rattle.scr_resolve.specs.Lines.{after}
use Rattle.scr_resolve.proofs.RowModes.{used_named}
use Rattle.scr_scope.specs.Entries.{entries_of}
use Rattle.scr_roundtrip.proofs.Drafts.{draft_head, draft_row, draft_values, draft_table}
use Rattle.scr_roundtrip.proofs.Good.{all_both}
use Rattle.scr_roundtrip.proofs.Resolved.{state}
use Rattle.scr_roundtrip.proofs.Named.{found, are_named}
use Rattle.scr_roundtrip.proofs.Declared.{Runs, step, runs_join, no_statement, no_fault}
use Rattle.scr_roundtrip.proofs.Heads.{table_with, head_run}
use Rattle.scr_roundtrip.proofs.Rows.{is_row_fit, rows_run}
use Rattle.scr_roundtrip.proofs.ValuesBack.{values_run}

-- ---- END

if_used : (b : Bool) (o : Option Name) (n : Name) → b ≡ true → o ≡ None → (if b then o else Some n) ≡ None
if_used true o n h g = g
if_used false o n h g = absurd (cc)

each_used : (rows : List Row) (place : ℕ) (names : List Name) → list_all (λ i. is_named rows (pos i)) (range_with_len place (length names)) ≡ true → first_missing rows place names ≡ None
each_used rows place [] h = refl
each_used rows place (n ∷ ns) h =
    let parts = and_parts (is_named rows (pos place)) (list_all (λ i. is_named rows (pos i)) (range_with_len (place + 1) (length ns))) h in
    if_used (is_used rows (pos place)) (first_missing rows (place + 1) ns) n (sym (used_named rows (pos place)) ∙ parts.0) (each_used rows (place + 1) ns (parts.1))

none_missing : (spec : Data) (names : NameList) (ts : List Table) (cur : Option Table) (heading : Heading) (class : Option ℕ) (rows : List Row) → is_complete_under spec heading class rows ≡ true
    → missing_in (state spec names ts cur) heading class rows ≡ None
none_missing spec names ts cur Condition None rows h = refl
none_missing spec names ts cur Condition (Some v) rows h = each_used rows 0 (modes_of spec v) h
none_missing spec names ts cur Event class rows h = refl
none_missing spec names ts cur Modes class rows h = refl

pub end_run : (spec : Data) (names : NameList) (ts : List Table) (v : ℕ) (heading : Heading) (class : Option ℕ) (rows : List Row) (values : List Expr) → is_complete_under spec heading class rows ≡ true
    → Runs (state spec names ts (Some (table_with v heading class rows values))) (st.End ∷ []) (state spec names (ts ++ table_with v heading class rows values ∷ []) None)
unfolding after
end_run spec names ts v heading class rows values h =
    let cur = Some (table_with v heading class rows values) in
    step (no_fault (state spec names ts cur) st.End refl refl refl refl refl (none_missing spec names ts cur heading class rows h) refl)
    (no_statement (after (state spec names ts cur) st.End))

-- ---- the rules of a table

abbrev pub is_table_kept : Data → Table → Bool
is_table_kept spec t =
    ((is_table_over spec t && is_head_sound spec t) && (is_class_sound spec t && is_layout_sound t))
    && ((are_modes_sound spec t && is_complete spec t) && ((are_targets_sound spec t && are_values_sound spec t) && (conds_pass (is_cond_typed spec) t && are_cells_formed t)))

pub record IsTableKept (spec : Data) (t : Table) : Type 0 where
  pub class_over : is_class_over spec t.class ≡ true
  pub rows_over : list_all (is_row_over spec) t.rows ≡ true
  pub there : nat_lt t.variable (length spec.variables) ≡ true
  pub sides_over : list_all (is_side_over spec) t.values ≡ true
  pub head : is_head_sound spec t ≡ true
  pub class : is_class_sound spec t ≡ true
  pub layout : is_layout_sound t ≡ true
  pub modes : are_modes_sound spec t ≡ true
  pub complete : is_complete spec t ≡ true
  pub targets : are_targets_sound spec t ≡ true
  pub values : are_values_sound spec t ≡ true
  pub typed : conds_pass (is_cond_typed spec) t ≡ true
  pub cells : are_cells_formed t ≡ true

pub kept_of : (spec : Data) (t : Table) → is_table_kept spec t ≡ true → IsTableKept spec t
kept_of spec t h =
    let all = and_parts ((is_table_over spec t && is_head_sound spec t) && (is_class_sound spec t && is_layout_sound t))
    ((are_modes_sound spec t && is_complete spec t) && ((are_targets_sound spec t && are_values_sound spec t) && (conds_pass (is_cond_typed spec) t && are_cells_formed t))) h in
    let left = and_parts (is_table_over spec t && is_head_sound spec t) (is_class_sound spec t && is_layout_sound t) (all.0) in
    let right = and_parts (are_modes_sound spec t && is_complete spec t) ((are_targets_sound spec t && are_values_sound spec t) && (conds_pass (is_cond_typed spec) t && are_cells_formed t)) (all.1) in
    let a = and_parts (is_table_over spec t) (is_head_sound spec t) (left.0) in
    let b = and_parts (is_class_sound spec t) (is_layout_sound t) (left.1) in
    let c = and_parts (are_modes_sound spec t) (is_complete spec t) (right.0) in
    let d = and_parts (are_targets_sound spec t && are_values_sound spec t) (conds_pass (is_cond_typed spec) t && are_cells_formed t) (right.1) in
    let e = and_parts (are_targets_sound spec t) (are_values_sound spec t) (d.0) in
    let f = and_parts (conds_pass (is_cond_typed spec) t) (are_cells_formed t) (d.1) in
    let over4 = and_parts (is_class_over spec t.class && list_all (is_row_over spec) t.rows && nat_lt t.variable (length spec.variables) && list_all (is_side_over spec) t.values) (is_small t) (a.0) in
    let over3 = and_parts (is_class_over spec t.class && list_all (is_row_over spec) t.rows && nat_lt t.variable (length spec.variables)) (list_all (is_side_over spec) t.values) (over4.0) in
    let over2 = and_parts (is_class_over spec t.class && list_all (is_row_over spec) t.rows) (nat_lt t.variable (length spec.variables)) (over3.0) in
    let over1 = and_parts (is_class_over spec t.class) (list_all (is_row_over spec) t.rows) (over2.0) in
    record {
      class_over = over1.0;
      rows_over = over1.1;
      there = over2.1;
      sides_over = over3.1;
      head = a.1;
      class = b.0;
      layout = b.1;
      modes = c.0;
      complete = c.1;
      targets = e.0;
      values = e.1;
      typed = f.0;
      cells = f.1;
    }

pub tables_kept : (spec : Data) → IsSound spec → list_all (is_table_kept spec) spec.tables ≡ true
tables_kept spec sound =
    let tabled = (rules_kept spec sound).tabled in
    let ts = spec.tables in
    all_both (λ t. (is_table_over spec t && is_head_sound spec t) && (is_class_sound spec t && is_layout_sound t))
    (λ t. (are_modes_sound spec t && is_complete spec t) && ((are_targets_sound spec t && are_values_sound spec t) && (conds_pass (is_cond_typed spec) t && are_cells_formed t))) ts
    (all_both (λ t. is_table_over spec t && is_head_sound spec t) (λ t. is_class_sound spec t && is_layout_sound t) ts
    (all_both (is_table_over spec) (is_head_sound spec) ts sound.tables tabled.heads) (all_both (is_class_sound spec) is_layout_sound ts tabled.classes tabled.layout))
    (all_both (λ t. are_modes_sound spec t && is_complete spec t) (λ t. (are_targets_sound spec t && are_values_sound spec t) && (conds_pass (is_cond_typed spec) t && are_cells_formed t)) ts
    (all_both (are_modes_sound spec) (is_complete spec) ts tabled.modes tabled.complete)
    (all_both (λ t. are_targets_sound spec t && are_values_sound spec t) (λ t. conds_pass (is_cond_typed spec) t && are_cells_formed t) ts
    (all_both (are_targets_sound spec) (are_values_sound spec) ts tabled.targets tabled.values)
    (all_both (conds_pass (is_cond_typed spec)) are_cells_formed ts (rules_kept spec sound).conditioned.typed tabled.cells)))

-- ---- rows, values and END

count_values : (n : ℕ) (rows : List Row) → list_all (has_width n) rows ≡ true → is_count rows n ≡ true
count_values n [] h = refl
count_values n (row ∷ rows) h = (and_parts (has_width n row) (list_all (has_width n) rows) h).0

rows_fit : (spec : Data) (n : ℕ) (rows : List Row) → list_all (is_row_over spec) rows ≡ true → list_all (row_passes (is_cond_typed spec)) rows ≡ true → list_all (λ r. nat_eq (length r.targets) 0) rows ≡ true
    → list_all (has_width n) rows ≡ true → list_all (is_row_fit spec n) rows ≡ true
rows_fit spec n rows over typed targets widths =
    all_both (λ r. is_row_over spec r && row_passes (is_cond_typed spec) r) (λ r. nat_eq (length r.targets) 0 && has_width n r) rows
    (all_both (is_row_over spec) (row_passes (is_cond_typed spec)) rows over typed) (all_both (λ r. nat_eq (length r.targets) 0) (has_width n) rows targets widths)

-- behind its head
body_run : (spec : Data) → IsSound spec → (ts : List Table) (v : ℕ) (heading : Heading) (class : Option ℕ) (rows : List Row) (values : List Expr)
    → IsTableKept spec (table_with v heading class rows values) → list_all (λ r. nat_eq (length r.targets) 0) rows ≡ true → list_all (has_width (length values)) rows ≡ true
    → Runs (state spec (entries_of spec) ts (Some (table_with v heading class [] []))) ((map (draft_row spec class) rows ++ draft_values spec values ∷ []) ++ st.End ∷ [])
    (state spec (entries_of spec) (ts ++ table_with v heading class rows values ∷ []) None)
body_run spec sound ts v heading class rows values kept targets widths =
    runs_join
    (runs_join (rows_run spec sound ts v heading class (length values) rows (rows_fit spec (length values) rows kept.rows_over kept.typed targets widths) kept.modes)
    (values_run spec (entries_of spec) (are_named spec (rules_kept spec sound).named.once) ts v heading class rows values kept.sides_over kept.values (count_values (length values) rows widths)))
    (end_run spec (entries_of spec) ts v heading class rows values kept.complete)

pub opened_run : (spec : Data) → IsSound spec → (ts : List Table) (v : ℕ) (heading : Heading) (class : Option ℕ) (rows : List Row) (values : List Expr)
    → IsTableKept spec (table_with v heading class rows values) → has_table ts v ≡ false → (rest : List Statement) (last : Known)
    → Runs (state spec (entries_of spec) ts (Some (table_with v heading class [] []))) rest last → Runs (state spec (entries_of spec) ts None) (draft_head spec (table_with v heading class rows values) ∷ rest) last
opened_run spec sound ts v heading class rows values kept new rest last more =
    let got = found spec.variables v kept.there in
    let headed : is_headed heading (got.0) ≡ true = ap (λ o. option_map_or (is_headed heading) o false) (sym (got.1)) ∙ kept.head in
    runs_join (head_run spec (entries_of spec) (are_named spec (rules_kept spec sound).named.once) ts v heading class (got.0) kept.there (got.1) new headed kept.class kept.class_over) more

pub condition_run : (spec : Data) → IsSound spec → (ts : List Table) (v : ℕ) (class : Option ℕ) (rows : List Row) (values : List Expr)
    → IsTableKept spec (table_with v Condition class rows values) → has_table ts v ≡ false
    → Runs (state spec (entries_of spec) ts None) (draft_table spec (table_with v Condition class rows values)) (state spec (entries_of spec) (ts ++ table_with v Condition class rows values ∷ []) None)
condition_run spec sound ts v class rows values kept new =
    opened_run spec sound ts v Condition class rows values kept new _ _
    (body_run spec sound ts v Condition class rows values kept kept.targets ((and_parts (nat_le 1 (length rows)) (list_all (has_width (length values)) rows) kept.layout).1))

pub event_run : (spec : Data) → IsSound spec → (ts : List Table) (v : ℕ) (class : Option ℕ) (rows : List Row) (values : List Expr)
    → IsTableKept spec (table_with v Event class rows values) → has_table ts v ≡ false
    → Runs (state spec (entries_of spec) ts None) (draft_table spec (table_with v Event class rows values)) (state spec (entries_of spec) (ts ++ table_with v Event class rows values ∷ []) None)
event_run spec sound ts v class rows values kept new =
    opened_run spec sound ts v Event class rows values kept new _ _
    (body_run spec sound ts v Event class rows values kept kept.targets ((and_parts (nat_le 1 (length rows)) (list_all (has_width (length values)) rows) kept.layout).1))
