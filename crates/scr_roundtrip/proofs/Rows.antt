-- The rows of a condition or event table resolve to these.
use Rattle.std.proofs.Common.{◌≡◌, ℕ, ℤ, Bool, true, false, ◌&&◌, List, [], ◌∷◌, ◌++◌, length, map, Option, Some, None, refl, sym, ap, ap₂, ◌∙◌, append_assoc, arith, append-nil}
use Rattle.std.specs.Prelude.{nat_eq, nat_le}
use Rattle.std.specs.Ordering.{int_eq}
use Rattle.std.specs.List.{list_all}
use Rattle.std.proofs.lemmas.Bool.{and_parts, leb-true, eqb-true, eq-eqb}
use Rattle.std.proofs.lemmas.List.{length-map}
use Rattle.std.proofs.lemmas.List.Folds.{list_all-append}
use Rattle.std.proofs.lemmas.Grind.{flat_map-append}
use Rattle.scr_spec.specs.Data.{Data}
use Rattle.scr_spec.specs.declared.table.Cell.{Cell}
use Rattle.scr_spec.specs.declared.table.Row.{Row}
use Rattle.scr_spec.specs.declared.table.Heading.{Heading}
use Rattle.scr_spec.specs.declared.table.Table.{Table}
use Rattle.scr_spec.specs.Distinct.{are_distinct}
use Rattle.scr_spec.specs.Over.{modes_of, is_place}
use Rattle.scr_spec.specs.RowModes.{named_modes, are_modes_of}
use Rattle.scr_spec.specs.Types.{is_narrow}
use Rattle.scr_spec.specs.Typed.{is_cond_typed}
use Rattle.scr_spec.specs.Parts.{row_passes}
use Rattle.scr_spec.specs.Cells.{is_cell_over, is_row_over}
use Rattle.scr_spec.specs.Tables.{has_width}
use Rattle.scr_spec.specs.Sound.{IsSound}
use Rattle.scr_spec.proofs.Kept.{rules_kept}
use Rattle.scr_spec.proofs.Passing.{and_true}
use Rattle.scr_scope.specs.declared.known.Known.{Known}
use Rattle.scr_resolve.specs.Tables.{variable_unless, is_count}
use Rattle.scr_resolve.specs.Built.{row_of}
use Rattle.scr_resolve.specs.Lines.{after}
use Rattle.scr_scope.specs.Entries.{entries_of}
use Rattle.scr_roundtrip.proofs.Drafts.{draft_cell, draft_modes, draft_row}
use Rattle.scr_roundtrip.proofs.Resolved.{state}
use Rattle.scr_roundtrip.proofs.CellsBack.{cells_back}
use Rattle.scr_roundtrip.proofs.Named.{are_named}
use Rattle.scr_roundtrip.proofs.Declared.{Runs, step, runs_to, runs_join, no_statement, no_fault}
use Rattle.scr_roundtrip.proofs.Variables.{none_first}
use Rattle.scr_roundtrip.proofs.Heads.{table_with}
use Rattle.scr_roundtrip.proofs.ModesBack.{IsRowPlaced, placed_over, placed_alone, no_modes}

pub none_unless : (known : Known) (right : Bool) → right ≡ true → variable_unless known right ≡ None
none_unless known true h = refl
none_unless known false h = absurd (cc)

-- ---- one row

abbrev pub row_as : List ℤ → List Cell → List ℤ → Row
row_as modes cells targets = record { modes = modes; cells = cells; targets = targets }

-- what the rules give for each row: its cells are over the specification and well typed, it has no targets and so many cells
abbrev pub is_row_fit : Data → ℕ → Row → Bool
is_row_fit spec n row = (is_row_over spec row && row_passes (is_cond_typed spec) row) && (nat_eq (length row.targets) 0 && has_width n row)

row_step : (spec : Data) → IsSound spec → (ts : List Table) (u : ℕ) (heading : Heading) (class : Option ℕ) (rows : List Row) (row : Row) (n : ℕ) → is_row_fit spec n row ≡ true
    → is_count rows (length row.cells) ≡ true
    → IsRowPlaced (state spec (entries_of spec) ts (Some (table_with u heading class rows []))) class rows (draft_modes spec class row.modes) row.modes
    → Runs (state spec (entries_of spec) ts (Some (table_with u heading class rows []))) (draft_row spec class row ∷ []) (state spec (entries_of spec) ts (Some (table_with u heading class (rows ++ row ∷ []) [])))
unfolding after
row_step spec sound ts u heading class rows row n fit count placed =
    let cur = Some (table_with u heading class rows []) in
    let known = state spec (entries_of spec) ts cur in
    let halves = and_parts (is_row_over spec row && row_passes (is_cond_typed spec) row) (nat_eq (length row.targets) 0 && has_width n row) fit in
    let first = and_parts (is_row_over spec row) (row_passes (is_cond_typed spec) row) (halves.0) in
    let second = and_parts (nat_eq (length row.targets) 0) (has_width n row) (halves.1) in
    let narrow = and_parts (list_all (is_cell_over spec) row.cells && list_all is_narrow row.modes) (list_all is_narrow row.targets) (first.0) in
    let over = (and_parts (list_all (is_cell_over spec) row.cells) (list_all is_narrow row.modes) (narrow.0)).0 in
    let back = cells_back spec (entries_of spec) sound (are_named spec (rules_kept spec sound).named.once) ts cur row.cells over in
    let same : row_of known (draft_modes spec class row.modes) (map (draft_cell spec) row.cells) ≡ row =
    ap₂ (λ modes cells. row_as modes cells []) placed.coded back.resolved ∙ ap (row_as row.modes row.cells) (no_modes row.targets (second.0)) in
    step
    (no_fault known (draft_row spec class row) refl (none_first _ _ placed.names_known back.known_names) (none_unless known _ (back.typed ∙ first.1)) refl (none_unless known _ back.narrow) placed.free
    (none_unless known _ (and_true _ _ placed.placed (ap (is_count rows) (length-map row.cells (draft_cell spec)) ∙ count))))
    (runs_to (ap (λ r. state spec (entries_of spec) ts (Some (table_with u heading class (rows ++ r ∷ []) []))) same) (no_statement (after known (draft_row spec class row))))

-- ---- all rows

count_of : (n : ℕ) (past : List Row) (row : Row) → list_all (has_width n) past ≡ true → has_width n row ≡ true → is_count past (length row.cells) ≡ true
count_of n [] row h g = refl
count_of n (first ∷ past) row h g =
    let same : length first.cells ≡ n = eqb-true (length first.cells) n ((and_parts (has_width n first) (list_all (has_width n) past) h).0) in
    eq-eqb (length first.cells) (length row.cells) (same ∙ sym (eqb-true (length row.cells) n g))

fit_width : (spec : Data) (n : ℕ) (row : Row) → is_row_fit spec n row ≡ true → has_width n row ≡ true
fit_width spec n row h =
    (and_parts (nat_eq (length row.targets) 0) (has_width n row) ((and_parts (is_row_over spec row && row_passes (is_cond_typed spec) row) (nat_eq (length row.targets) 0 && has_width n row) h).1)).1

rows_over : (spec : Data) → IsSound spec → (ts : List Table) (u : ℕ) (heading : Heading) (v n : ℕ) (past rows : List Row) → list_all (is_row_fit spec n) rows ≡ true → list_all (has_width n) past ≡ true
    → list_all (λ r. nat_le 1 (length r.modes)) rows ≡ true → list_all (is_place (modes_of spec v)) (named_modes rows) ≡ true → are_distinct int_eq (named_modes past ++ named_modes rows) ≡ true
    → Runs (state spec (entries_of spec) ts (Some (table_with u heading (Some v) past []))) (map (draft_row spec (Some v)) rows) (state spec (entries_of spec) ts (Some (table_with u heading (Some v) (past ++ rows) [])))
rows_over spec sound ts u heading v n past [] fit widths some places once =
    runs_to (ap (λ rows. state spec (entries_of spec) ts (Some (table_with u heading (Some v) rows []))) (sym (append-nil past))) (no_statement (state spec (entries_of spec) ts (Some (table_with u heading (Some v) past []))))
rows_over spec sound ts u heading v n past (row ∷ rows) fit widths some places once =
    let fits = and_parts (is_row_fit spec n row) (list_all (is_row_fit spec n) rows) fit in
    let somes = and_parts (nat_le 1 (length row.modes)) (list_all (λ r. nat_le 1 (length r.modes)) rows) some in
    let wide = fit_width spec n row (fits.0) in
    let place = and_parts (list_all (is_place (modes_of spec v)) row.modes) (list_all (is_place (modes_of spec v)) (named_modes rows))
    (sym (list_all-append (is_place (modes_of spec v)) row.modes (named_modes rows)) ∙ places) in
    let placed = placed_over spec (rules_kept spec sound).named.once ts u heading v past [] row.modes (named_modes rows) (somes.0) (place.0) once in
    let next : are_distinct int_eq (named_modes (past ++ row ∷ []) ++ named_modes rows) ≡ true =
    ap (λ codes. are_distinct int_eq (codes ++ named_modes rows)) (flat_map-append (λ (r : Row). r.modes) past (row ∷ []) ∙ ap (λ codes. named_modes past ++ codes) (append-nil row.modes))
    ∙ ap (are_distinct int_eq) (append_assoc (named_modes past) row.modes (named_modes rows)) ∙ once in
    let wider : list_all (has_width n) (past ++ row ∷ []) ≡ true = list_all-append (has_width n) past (row ∷ []) ∙ and_true _ _ widths (and_true _ _ wide refl) in
    runs_join (row_step spec sound ts u heading (Some v) past row n (fits.0) (count_of n past row widths wide) placed)
    (runs_to (ap (λ rows. state spec (entries_of spec) ts (Some (table_with u heading (Some v) rows []))) (append_assoc past (row ∷ []) rows))
    (rows_over spec sound ts u heading v n (past ++ row ∷ []) rows (fits.1) wider (somes.1) (place.1) next))

rows_alone : (spec : Data) → IsSound spec → (ts : List Table) (u : ℕ) (heading : Heading) (n : ℕ) (rows : List Row) → list_all (is_row_fit spec n) rows ≡ true
    → nat_le (length rows) 1 ≡ true → list_all (λ r. nat_eq (length r.modes) 0) rows ≡ true
    → Runs (state spec (entries_of spec) ts (Some (table_with u heading None [] []))) (map (draft_row spec None) rows) (state spec (entries_of spec) ts (Some (table_with u heading None rows [])))
rows_alone spec sound ts u heading n [] fit few bare = no_statement (state spec (entries_of spec) ts (Some (table_with u heading None [] [])))
rows_alone spec sound ts u heading n (row ∷ []) fit few bare =
    row_step spec sound ts u heading None [] row n ((and_parts (is_row_fit spec n row) true fit).0) refl
    (placed_alone spec ts u heading row.modes ((and_parts (nat_eq (length row.modes) 0) true bare).0))
rows_alone spec sound ts u heading n (row ∷ other ∷ rows) fit few bare = let e = leb-true (length (row ∷ other ∷ rows)) 1 few in absurd (omega (arith, e))

pub rows_run : (spec : Data) → IsSound spec → (ts : List Table) (u : ℕ) (heading : Heading) (class : Option ℕ) (n : ℕ) (rows : List Row) → list_all (is_row_fit spec n) rows ≡ true
    → are_modes_of spec class rows ≡ true
    → Runs (state spec (entries_of spec) ts (Some (table_with u heading class [] []))) (map (draft_row spec class) rows) (state spec (entries_of spec) ts (Some (table_with u heading class rows [])))
rows_run spec sound ts u heading None n rows fit modes =
    let parts = and_parts (nat_le (length rows) 1) (list_all (λ r. nat_eq (length r.modes) 0) rows) modes in
    rows_alone spec sound ts u heading n rows fit (parts.0) (parts.1)
rows_run spec sound ts u heading (Some v) n rows fit modes =
    let parts = and_parts (list_all (λ r. nat_le 1 (length r.modes)) rows && list_all (is_place (modes_of spec v)) (named_modes rows)) (are_distinct int_eq (named_modes rows)) modes in
    let two = and_parts (list_all (λ r. nat_le 1 (length r.modes)) rows) (list_all (is_place (modes_of spec v)) (named_modes rows)) (parts.0) in
    rows_over spec sound ts u heading v n [] rows fit refl (two.0) (two.1) (parts.1)
