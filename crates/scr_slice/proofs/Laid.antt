-- The tables of a slice keep the rules on rows, cells and modes.
use Rattle.std.proofs.Common.{◌≡◌, ℕ, ◌+◌, ℤ, Bool, true, false, cond, not, ◌&&◌, ◌||◌, List, [], ◌∷◌, ◌++◌, map, fold, length, pos, refl, sym, ap, ◌∙◌}
use Rattle.std.specs.Prelude.{nat_le, nat_eq, Option, Some, None, is_none}
use Rattle.std.specs.Option.{option_map_or, option_map}
use Rattle.std.specs.Ordering.{int_eq}
use Rattle.std.specs.List.{list_all, list_any, filter, sum_by, range_with_len}
use Rattle.std.proofs.lemmas.Bool.{and_parts, false≢true}
use Rattle.std.proofs.lemmas.List.{length-map}
use Rattle.scr_spec.specs.Data.{Data}
use Rattle.scr_spec.specs.declared.spec.Variable.{Variable}
use Rattle.scr_spec.specs.declared.cond.Expr.{Expr}
use Rattle.scr_spec.specs.declared.cond.Cond.{Cond}
use Rattle.scr_spec.specs.declared.table.Change.{Change}
use Rattle.scr_spec.specs.declared.table.Change.TheVariants.{Becomes, Ceases, Changes, Never}
use Rattle.scr_spec.specs.declared.table.Primitive.{Primitive}
use Rattle.scr_spec.specs.declared.table.Event.{Event}
use Rattle.scr_spec.specs.declared.table.Cell.{Cell}
use Rattle.scr_spec.specs.declared.table.Cell.TheVariants as cell
use Rattle.scr_spec.specs.declared.table.Row.{Row}
use Rattle.scr_spec.specs.declared.table.Heading.{Heading}
use Rattle.scr_spec.specs.declared.table.Heading.TheVariants as heading
use Rattle.scr_spec.specs.declared.table.Table.{Table}
use Rattle.scr_spec.specs.declared.limits.TheConstants.{ROW_LIMIT}
use Rattle.scr_spec.specs.Roles.{is_class_role}
use Rattle.scr_spec.specs.Distinct.{are_distinct}
use Rattle.scr_spec.specs.Formed.{is_guard_formed, is_prim_formed, is_event_formed}
use Rattle.scr_spec.specs.Over.{modes_of, is_place}
use Rattle.scr_spec.specs.Tables.{is_class_at, is_over_class, is_class_sound, is_cell_formed, is_row_formed, are_cells_formed, has_width, is_laid_out, is_layout_sound}
use Rattle.scr_spec.specs.RowModes.{named_modes, are_modes_of, are_modes_sound, are_all_named, is_complete_under, is_complete, is_transition, is_row_targeted, are_targets_sound}
use Rattle.scr_depend.specs.Graphs.{is_among}
use Rattle.scr_slice.specs.Renumbered.{cond_with, change_with, prim_with, event_with, cell_with, row_with, side_with, table_with}
use Rattle.scr_slice.specs.Slices.{IsKeepable, IsSlice, number_in}
use Rattle.scr_slice.proofs.Numbers.{same_test, variable_at}
use Rattle.scr_slice.proofs.Over.{both_moved, all_plain, modes_at}

-- the class is kept, if there is one
abbrev pub IsClassKept : List ℕ → Option ℕ → Type 0
IsClassKept keep None = Unit {0}
IsClassKept keep (Some v) = is_among keep v ≡ true

-- ---- forms, which no number changes

module _ (number : ℕ → ℕ) where
  none_same : (o : Option Cond) → is_none (option_map (cond_with number) o) ≡ is_none o
  none_same None = refl
  none_same (Some c) = refl

  guard_same : (d : Change) (o : Option Cond) → is_guard_formed (change_with number d) (option_map (cond_with number) o) ≡ is_guard_formed d o
  guard_same (Becomes c) o = refl
  guard_same (Ceases c) o = refl
  guard_same (Changes v) o = refl
  guard_same Never o = none_same o

  event_same : (e : Event) → is_event_formed (event_with number e) ≡ is_event_formed e
  event_same e =
      both_moved _ _ _ _ (ap (nat_le 1) (length-map e.prims (prim_with number)))
      (all_plain (prim_with number) is_prim_formed is_prim_formed (λ (p : Primitive). guard_same p.change p.guard) e.prims)

  cell_same : (h : Heading) (c : Cell) → is_cell_formed h (cell_with number c) ≡ is_cell_formed h c
  cell_same heading.Condition (cell.Cond c) = refl
  cell_same heading.Condition (cell.Event e) = refl
  cell_same heading.Event (cell.Cond c) = refl
  cell_same heading.Event (cell.Event e) = event_same e
  cell_same heading.Modes (cell.Cond c) = refl
  cell_same heading.Modes (cell.Event e) = event_same e

  cells_many : (row : Row) → length (row_with number row).cells ≡ length row.cells
  cells_many row = length-map row.cells (cell_with number)

  row_same : (h : Heading) (row : Row) → is_row_formed h (row_with number row) ≡ is_row_formed h row
  row_same h row =
      both_moved _ _ _ _ (ap (nat_le 1) (cells_many row)) (all_plain (cell_with number) (is_cell_formed h) (is_cell_formed h) (cell_same h) row.cells)

  pub cells_same : (t : Table) → are_cells_formed (table_with number t) ≡ are_cells_formed t
  cells_same t = all_plain (row_with number) (is_row_formed t.heading) (is_row_formed t.heading) (row_same t.heading) t.rows

  -- rows and columns
  sum_same : {X : Type 0} (r : X → X) (f : X → ℕ) → ((x : X) → f (r x) ≡ f x) → (xs : List X) → sum_by f (map r xs) ≡ sum_by f xs
  sum_same {X = X} r f one xs = from xs 0
    where
      from : (xs : List X) (a : ℕ) → fold (λ sum x. sum + f x) a (map r xs) ≡ fold (λ sum x. sum + f x) a xs
      from [] a = refl
      from (x ∷ xs) a = ap (λ n. fold (λ sum y. sum + f y) (a + n) (map r xs)) (one x) ∙ from xs (a + f x)

  wide_same : (n : ℕ) (rows : List Row) → list_all (has_width n) (map (row_with number) rows) ≡ list_all (has_width n) rows
  wide_same n rows = all_plain (row_with number) (has_width n) (has_width n) (λ (row : Row). ap (λ k. nat_eq k n) (cells_many row)) rows

  rectangle_same : (rows : List Row) (values : List Expr) → (nat_le 1 (length (map (row_with number) rows)) && list_all (has_width (length (map (side_with number) values))) (map (row_with number) rows))
      ≡ (nat_le 1 (length rows) && list_all (has_width (length values)) rows)
  rectangle_same rows values =
      both_moved _ _ _ _ (ap (nat_le 1) (length-map rows (row_with number)))
      (ap (λ n. list_all (has_width n) (map (row_with number) rows)) (length-map values (side_with number)) ∙ wide_same (length values) rows)

  laid_same : (h : Heading) (rows : List Row) (values : List Expr) → is_laid_out h (map (row_with number) rows) (map (side_with number) values) ≡ is_laid_out h rows values
  laid_same heading.Condition rows values = rectangle_same rows values
  laid_same heading.Event rows values = rectangle_same rows values
  laid_same heading.Modes rows values =
      both_moved _ _ _ _ (ap (λ n. nat_eq n 0) (length-map values (side_with number)))
      (ap (λ n. nat_le n ROW_LIMIT) (sum_same (row_with number) (λ row. length row.cells) cells_many rows))

  pub layout_same : (t : Table) → is_layout_sound (table_with number t) ≡ is_layout_sound t
  layout_same t = laid_same t.heading t.rows t.values

  modes_listed : (rows : List Row) → map (λ (row : Row). row.modes) (map (row_with number) rows) ≡ map (λ (row : Row). row.modes) rows
  modes_listed [] = refl
  modes_listed (row ∷ rows) = ap (λ modes. row.modes ∷ modes) (modes_listed rows)

  pub modes_same : (rows : List Row) → named_modes (map (row_with number) rows) ≡ named_modes rows
  modes_same [] = refl
  modes_same (row ∷ rows) = ap (λ modes. row.modes ++ modes) (modes_same rows)

-- ---- what hangs on the class

module _ (spec : Data) (keep : List ℕ) (slice : Data) (is : IsSlice spec keep slice) (can : IsKeepable spec keep) where
  abbrev number : ℕ → ℕ
  number = number_in keep

  class_at : (v : ℕ) → is_among keep v ≡ true → is_class_at slice (number v) ≡ is_class_at spec v
  class_at v h = ap (λ (o : Option Variable). option_map_or (λ x. is_class_role x.role) o false) (variable_at spec keep slice is v h)

  over_class : (h : Heading) (v : ℕ) (class : Option ℕ) → is_among keep v ≡ true → IsClassKept keep class → is_over_class slice h (number v) (option_map number class) ≡ is_over_class spec h v class
  over_class heading.Condition v None kept k = refl
  over_class heading.Condition v (Some w) kept k = class_at w k
  over_class heading.Event v None kept k = refl
  over_class heading.Event v (Some w) kept k = class_at w k
  over_class heading.Modes v None kept k = refl
  over_class heading.Modes v (Some w) kept k = same_test spec keep slice is w v k kept

  pub class_sound_at : (t : Table) → is_among keep t.variable ≡ true → IsClassKept keep t.class → is_class_sound slice (table_with number t) ≡ is_class_sound spec t
  class_sound_at t kept k = over_class t.heading t.variable t.class kept k

  modes_by : (class : Option ℕ) (rows : List Row) → IsClassKept keep class → are_modes_of slice (option_map number class) (map (row_with number) rows) ≡ are_modes_of spec class rows
  modes_by None rows k =
      both_moved _ _ _ _ (ap (λ n. nat_le n 1) (length-map rows (row_with number)))
      (all_plain (row_with number) (λ row. nat_eq (length row.modes) 0) (λ row. nat_eq (length row.modes) 0) (λ (row : Row). refl) rows)
  modes_by (Some v) rows k =
      both_moved _ _ _ _
      (both_moved _ _ _ _ (all_plain (row_with number) (λ row. nat_le 1 (length row.modes)) (λ row. nat_le 1 (length row.modes)) (λ (row : Row). refl) rows)
      (ap (λ names. list_all (is_place names) (named_modes (map (row_with number) rows))) (modes_at spec keep slice is can v k) ∙ ap (list_all (is_place (modes_of spec v))) (modes_same number rows)))
      (ap (are_distinct int_eq) (modes_same number rows))

  pub modes_sound_at : (t : Table) → IsClassKept keep t.class → are_modes_sound slice (table_with number t) ≡ are_modes_sound spec t
  modes_sound_at t k = modes_by t.class t.rows k

  complete_by : (h : Heading) (class : Option ℕ) (rows : List Row) → IsClassKept keep class
      → is_complete_under slice h (option_map number class) (map (row_with number) rows) ≡ is_complete_under spec h class rows
  complete_by heading.Condition None rows k = refl
  complete_by heading.Condition (Some v) rows k =
      ap (are_all_named (map (row_with number) rows)) (modes_at spec keep slice is can v k) ∙ all_named (modes_of spec v)
    where
      all_named : (names : List (List ℕ)) → are_all_named (map (row_with number) rows) names ≡ are_all_named rows names
      all_named names = ap (λ (modes : List ℤ). list_all (λ i. list_any (int_eq (pos i)) modes) (range_with_len 0 (length names))) (modes_same number rows)
  complete_by heading.Event class rows k = refl
  complete_by heading.Modes class rows k = refl

  pub complete_at : (t : Table) → IsClassKept keep t.class → is_complete slice (table_with number t) ≡ is_complete spec t
  complete_at t k = complete_by t.heading t.class t.rows k

  transition_same : (names : List (List ℕ)) (row : Row) → is_transition names (row_with number row) ≡ is_transition names row
  transition_same names row =
      ap (λ n. nat_eq (length row.modes) 1 && nat_eq (length row.targets) n && list_all (is_place names) row.targets && are_distinct int_eq row.targets
      && list_all (λ source. not (list_any (int_eq source) row.targets)) row.modes) (cells_many number row)

  targeted_at : (h : Heading) (v : ℕ) → is_among keep v ≡ true → (row : Row) → is_row_targeted slice h (number v) (row_with number row) ≡ is_row_targeted spec h v row
  targeted_at heading.Condition v kept row = refl
  targeted_at heading.Event v kept row = refl
  targeted_at heading.Modes v kept row = ap (λ names. is_transition names (row_with number row)) (modes_at spec keep slice is can v kept) ∙ transition_same (modes_of spec v) row

  pub targets_at : (t : Table) → is_among keep t.variable ≡ true → are_targets_sound slice (table_with number t) ≡ are_targets_sound spec t
  targets_at t kept = all_plain (row_with number) (is_row_targeted spec t.heading t.variable) (is_row_targeted slice t.heading (number t.variable)) (targeted_at t.heading t.variable kept) t.rows

  -- ---- one table for each variable

  abbrev kept_tables : List Table → List Table
  kept_tables tables = filter (λ t. is_among keep t.variable) tables

  abbrev variables : List Table → List ℕ
  variables tables = map (λ t. t.variable) tables

  none_again : (v : ℕ) → is_among keep v ≡ true → (tables : List Table) → list_any (nat_eq v) (variables tables) ≡ false
      → list_any (nat_eq (number v)) (variables (map (table_with number) (kept_tables tables))) ≡ false
  none_again v kept [] h = refl
  none_again v kept (t ∷ ts) h =
      let rest = kept_tables ts in
      let parts = none_of (nat_eq v t.variable) (list_any (nat_eq v) (variables ts)) h in
      let later = none_again v kept ts parts.1 in
      elim (is_among keep t.variable) as (λ b. is_among keep t.variable ≡ b → list_any (nat_eq (number v)) (variables (map (table_with number) (cond b (t ∷ rest) rest))) ≡ false) [
        | true ↦ λ also. ap (λ b. b || list_any (nat_eq (number v)) (variables (map (table_with number) rest))) (same_test spec keep slice is t.variable v also kept ∙ parts.0) ∙ later
        | false ↦ λ dropped. later
      ] refl
    where
      none_of : (b c : Bool) → b || c ≡ false → (b ≡ false) × (c ≡ false)
      none_of true c h = absurd (false≢true (sym h))
      none_of false c h = (refl, h)

  once_by : (tables : List Table) → are_distinct nat_eq (variables tables) ≡ true → are_distinct nat_eq (variables (map (table_with number) (kept_tables tables))) ≡ true
  once_by [] h = refl
  once_by (t ∷ ts) h =
      let rest = kept_tables ts in
      let parts = and_parts (not (list_any (nat_eq t.variable) (variables ts))) (are_distinct nat_eq (variables ts)) h in
      let later = once_by ts parts.1 in
      elim (is_among keep t.variable) as (λ b. is_among keep t.variable ≡ b → are_distinct nat_eq (variables (map (table_with number) (cond b (t ∷ rest) rest))) ≡ true) [
        | true ↦ λ kept.
            ap (λ b. not b && are_distinct nat_eq (variables (map (table_with number) rest))) (none_again t.variable kept ts (not_true (list_any (nat_eq t.variable) (variables ts)) parts.0)) ∙ later
        | false ↦ λ dropped. later
      ] refl
    where
      not_true : (b : Bool) → not b ≡ true → b ≡ false
      not_true true h = absurd (false≢true h)
      not_true false h = refl

  pub once_at : are_distinct nat_eq (variables spec.tables) ≡ true → are_distinct nat_eq (variables slice.tables) ≡ true
  once_at h = ap (λ tables. are_distinct nat_eq (variables tables)) is.tables ∙ once_by spec.tables h
