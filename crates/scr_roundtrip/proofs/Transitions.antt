-- The FROM lines of a mode table resolve to its rows.
use Rattle.std.proofs.Common.{◌≡◌, ℕ, ◌+◌, ℤ, Bool, true, false, not, ◌&&◌, ◌||◌, List, [], ◌∷◌, ◌++◌, length, Some, refl, sym, ap, ap₂, ◌∙◌, append_assoc, arith, append-nil}
use Rattle.std.specs.Prelude.{nat_eq, nat_le, if◌then◌else◌}
use Rattle.std.specs.Ordering.{int_eq}
use Rattle.std.specs.List.{list_all, list_any, flat_map}
use Rattle.std.proofs.lemmas.Bool.{and_parts, leb-true, eqb-true}
use Rattle.std.proofs.lemmas.List.{length_push}
use Rattle.std.proofs.lemmas.List.Folds.{list_all-append}
use Rattle.std.proofs.lemmas.Grind.{flat_map-append}
use Rattle.scr_spec.specs.Data.{Data}
use Rattle.scr_spec.specs.declared.table.Cell.{Cell}
use Rattle.scr_spec.specs.declared.table.Cell.TheVariants as cell
use Rattle.scr_spec.specs.declared.table.Event.{Event}
use Rattle.scr_spec.specs.declared.table.Row.{Row}
use Rattle.scr_spec.specs.declared.table.Heading.TheVariants.{Modes}
use Rattle.scr_spec.specs.declared.table.Table.{Table}
use Rattle.scr_spec.specs.Distinct.{are_distinct}
use Rattle.scr_spec.specs.Over.{modes_of, is_place}
use Rattle.scr_spec.specs.Typed.{is_cond_typed}
use Rattle.scr_spec.specs.Parts.{prim_passes, cell_passes, row_passes}
use Rattle.scr_spec.specs.Events.{is_prim_over}
use Rattle.scr_spec.specs.Types.{is_narrow}
use Rattle.scr_spec.specs.Cells.{is_cell_over, is_row_over}
use Rattle.scr_spec.specs.Tables.{is_cell_formed, is_row_formed}
use Rattle.scr_spec.specs.RowModes.{named_modes, is_transition}
use Rattle.scr_spec.specs.Sound.{IsSound}
use Rattle.scr_spec.proofs.Kept.{rules_kept}
use Rattle.scr_scope.specs.Events.{event_of}
use Rattle.scr_resolve.specs.Tables.{has_mode, is_used}
use Rattle.scr_resolve.specs.Built.{cells_with, row_with, row_from, rows_with}
use Rattle.scr_resolve.specs.Lines.{after}
use Rattle.scr_resolve.proofs.RowModes.{code_same, used_named}
use Rattle.scr_printer.specs.Names.{mode_name}
use Rattle.scr_scope.specs.Entries.{entries_of}
use Rattle.scr_roundtrip.proofs.Drafts.{cell_event, draft_event, draft_transition, draft_targets, draft_source}
use Rattle.scr_roundtrip.proofs.Good.{all_both}
use Rattle.scr_roundtrip.proofs.Resolved.{state}
use Rattle.scr_roundtrip.proofs.CellsBack.{prims_back}
use Rattle.scr_roundtrip.proofs.Named.{are_named}
use Rattle.scr_roundtrip.proofs.Declared.{Runs, step, runs_to, runs_join, no_statement, no_fault, or_none}
use Rattle.scr_roundtrip.proofs.Variables.{none_first, right_none}
use Rattle.scr_roundtrip.proofs.Heads.{table_with}
use Rattle.scr_roundtrip.proofs.ModesBack.{mode_back, code_back, is_mode_back, apart_names, fresh_code}
use Rattle.scr_roundtrip.proofs.Rows.{none_unless, row_as}

-- ---- a transition put into rows

if_false : {X : Type 0} (b : Bool) (x y : X) → b ≡ false → (if b then x else y) ≡ y
if_false true x y h = absurd (cc)
if_false false x y h = refl

if_true : {X : Type 0} (b : Bool) (x y : X) → b ≡ true → (if b then x else y) ≡ x
if_true true x y h = refl
if_true false x y h = absurd (cc)

-- a row of a new source stands last
new_row : (s g : ℤ) (e : Event) (rows : List Row) → is_used rows s ≡ false → rows_with s g e rows ≡ rows ++ row_from s g e ∷ []
new_row s g e [] h = refl
new_row s g e (row ∷ rows) h =
    let parts = or_none (has_mode s row) (is_used rows s) h in
    if_false (has_mode s row) (row_with g e row ∷ rows) (row ∷ rows_with s g e rows) (parts.0) ∙ ap (λ more. row ∷ more) (new_row s g e rows (parts.1))

-- a target that the row does not have stands last
new_cell : (g : ℤ) (e : Event) (targets : List ℤ) (cells : List Cell) → list_any (int_eq g) targets ≡ false → length targets ≡ length cells → cells_with g e targets cells ≡ cells ++ cell.Event e ∷ []
new_cell g e [] cells h n = refl
new_cell g e (t ∷ targets) [] h n = absurd (omega (arith, n))
new_cell g e (t ∷ targets) (c ∷ cells) h n =
    let parts = or_none (int_eq g t) (list_any (int_eq g) targets) h in
    if_false (int_eq g t) _ _ (parts.0) ∙ ap (λ more. c ∷ more) (new_cell g e targets cells (parts.1) (omega (arith, n)))

more_row : (s g : ℤ) (e : Event) (rows : List Row) (cells : List Cell) (targets : List ℤ) → is_used rows s ≡ false → list_any (int_eq g) targets ≡ false → length targets ≡ length cells
    → rows_with s g e (rows ++ row_as (s ∷ []) cells targets ∷ []) ≡ rows ++ row_as (s ∷ []) (cells ++ cell.Event e ∷ []) (targets ++ g ∷ []) ∷ []
more_row s g e [] cells targets h new n =
    if_true (has_mode s (row_as (s ∷ []) cells targets)) _ _ (ap (λ b. b || false) (code_same s s refl))
    ∙ ap₂ (λ cells targets. row_as (s ∷ []) cells targets ∷ []) (new_cell g e targets cells new n) (if_false (list_any (int_eq g) targets) targets (targets ++ g ∷ []) new)
more_row s g e (row ∷ rows) cells targets h new n =
    let parts = or_none (has_mode s row) (is_used rows s) h in
    if_false (has_mode s row) _ _ (parts.0) ∙ ap (λ more. row ∷ more) (more_row s g e rows cells targets (parts.1) new n)

-- ---- one FROM line

event_cell : (x : Cell) → is_cell_formed Modes x ≡ true → cell.Event (cell_event x) ≡ x
event_cell (cell.Cond c) h = absurd (cc)
event_cell (cell.Event e) h = refl

event_over : (spec : Data) (x : Cell) → is_cell_formed Modes x ≡ true → is_cell_over spec x ≡ true → list_all (is_prim_over spec) (cell_event x).prims ≡ true
event_over spec (cell.Cond c) h g = refl
event_over spec (cell.Event e) h g = g

event_typed : (spec : Data) (x : Cell) → is_cell_formed Modes x ≡ true → cell_passes (is_cond_typed spec) x ≡ true → list_all (prim_passes (is_cond_typed spec)) (cell_event x).prims ≡ true
event_typed spec (cell.Cond c) h g = refl
event_typed spec (cell.Event e) h g = g

-- what the rules give for each cell of a mode table
abbrev pub is_cell_fit : Data → Cell → Bool
is_cell_fit spec x = is_cell_formed Modes x && (is_cell_over spec x && cell_passes (is_cond_typed spec) x)

transition_step : (spec : Data) → IsSound spec → (ts : List Table) (v : ℕ) (rows : List Row) (s g : ℤ) (x : Cell) → is_place (modes_of spec v) s ≡ true → is_place (modes_of spec v) g ≡ true → int_eq s g ≡ false
    → is_cell_fit spec x ≡ true
    → Runs (state spec (entries_of spec) ts (Some (table_with v Modes (Some v) rows []))) (draft_transition spec v s g x ∷ [])
    (state spec (entries_of spec) ts (Some (table_with v Modes (Some v) (rows_with s g (cell_event x) rows) [])))
unfolding after
transition_step spec sound ts v rows s g x from to apart fit =
    let cur = Some (table_with v Modes (Some v) rows []) in
    let known = state spec (entries_of spec) ts cur in
    let once = (rules_kept spec sound).named.once in
    let source = mode_back spec once ts cur v s from in
    let target = mode_back spec once ts cur v g to in
    let parts = and_parts (is_cell_formed Modes x) (is_cell_over spec x && cell_passes (is_cond_typed spec) x) fit in
    let two = and_parts (is_cell_over spec x) (cell_passes (is_cond_typed spec) x) (parts.1) in
    let back = prims_back spec (entries_of spec) sound (are_named spec once) ts cur (cell_event x).prims (event_over spec x (parts.0) (two.0)) in
    let event : event_of known (draft_event spec (cell_event x)) ≡ cell_event x = ap (λ prims. let e : Event = record { prims = prims } in e) back.resolved in
    step
    (no_fault known (draft_transition spec v s g x) refl (none_first _ _ source.there (none_first _ _ target.there back.known_names))
    (none_unless known _ (back.typed ∙ event_typed spec x (parts.0) (two.1))) refl (none_unless known _ back.narrow)
    (none_first _ _ (right_none _ (mode_name spec v s) (is_mode_back known v (mode_name spec v s) s source))
    (none_first _ _ (right_none _ (mode_name spec v g) (is_mode_back known v (mode_name spec v g) g target)) (right_none _ (mode_name spec v s) (ap not (apart_names spec once v s g from to apart)))))
    refl)
    (runs_to (ap₂ (λ s g. state spec (entries_of spec) ts (Some (table_with v Modes (Some v) (rows_with s g (event_of known (draft_event spec (cell_event x))) rows) [])))
    (code_back known v (mode_name spec v s) s source) (code_back known v (mode_name spec v g) g target)
    ∙ ap (λ e. state spec (entries_of spec) ts (Some (table_with v Modes (Some v) (rows_with s g e rows) []))) event)
    (no_statement (after known (draft_transition spec v s g x))))

-- ---- the lines of a row

lists_grow : {X Y : Type 0} (xs : List X) (ys : List Y) (x : X) (y : Y) → length xs ≡ length ys → length (xs ++ x ∷ []) ≡ length (ys ++ y ∷ [])
lists_grow xs ys x y h = length_push xs x ∙ ap (λ n. n + 1) h ∙ sym (length_push ys y)

targets_run : (spec : Data) → IsSound spec → (ts : List Table) (v : ℕ) (rows : List Row) (s : ℤ) (cells : List Cell) (targets : List ℤ) (gs : List ℤ) (xs : List Cell)
    → is_place (modes_of spec v) s ≡ true → is_used rows s ≡ false → length targets ≡ length cells → length gs ≡ length xs
    → list_all (is_place (modes_of spec v)) gs ≡ true → list_any (int_eq s) gs ≡ false → are_distinct int_eq (targets ++ gs) ≡ true → list_all (is_cell_fit spec) xs ≡ true
    → Runs (state spec (entries_of spec) ts (Some (table_with v Modes (Some v) (rows ++ row_as (s ∷ []) cells targets ∷ []) []))) (draft_targets spec v s gs xs)
    (state spec (entries_of spec) ts (Some (table_with v Modes (Some v) (rows ++ row_as (s ∷ []) (cells ++ xs) (targets ++ gs) ∷ []) [])))
targets_run spec sound ts v rows s cells targets [] [] from new same both places apart once fit =
    runs_to (ap₂ (λ cells targets. state spec (entries_of spec) ts (Some (table_with v Modes (Some v) (rows ++ row_as (s ∷ []) cells targets ∷ []) []))) (sym (append-nil cells)) (sym (append-nil targets)))
    (no_statement (state spec (entries_of spec) ts (Some (table_with v Modes (Some v) (rows ++ row_as (s ∷ []) cells targets ∷ []) []))))
targets_run spec sound ts v rows s cells targets [] (x ∷ xs) from new same both places apart once fit = absurd (omega (arith, both))
targets_run spec sound ts v rows s cells targets (g ∷ gs) [] from new same both places apart once fit = absurd (omega (arith, both))
targets_run spec sound ts v rows s cells targets (g ∷ gs) (x ∷ xs) from new same both places apart once fit =
    let place = and_parts (is_place (modes_of spec v) g) (list_all (is_place (modes_of spec v)) gs) places in
    let aparts = or_none (int_eq s g) (list_any (int_eq s) gs) apart in
    let fits = and_parts (is_cell_fit spec x) (list_all (is_cell_fit spec) xs) fit in
    let formed = (and_parts (is_cell_formed Modes x) (is_cell_over spec x && cell_passes (is_cond_typed spec) x) (fits.0)).0 in
    let added : rows_with s g (cell_event x) (rows ++ row_as (s ∷ []) cells targets ∷ []) ≡ rows ++ row_as (s ∷ []) (cells ++ x ∷ []) (targets ++ g ∷ []) ∷ [] =
    more_row s g (cell_event x) rows cells targets new (fresh_code targets gs g once) same
    ∙ ap (λ c. rows ++ row_as (s ∷ []) (cells ++ c ∷ []) (targets ++ g ∷ []) ∷ []) (event_cell x formed) in
    runs_join
    (runs_to (ap (λ rows. state spec (entries_of spec) ts (Some (table_with v Modes (Some v) rows []))) added)
    (transition_step spec sound ts v (rows ++ row_as (s ∷ []) cells targets ∷ []) s g x from (place.0) (aparts.0) (fits.0)))
    (runs_to (ap₂ (λ cells targets. state spec (entries_of spec) ts (Some (table_with v Modes (Some v) (rows ++ row_as (s ∷ []) cells targets ∷ []) [])))
    (append_assoc cells (x ∷ []) xs) (append_assoc targets (g ∷ []) gs))
    (targets_run spec sound ts v rows s (cells ++ x ∷ []) (targets ++ g ∷ []) gs xs from new (lists_grow targets cells g x same) (omega (arith, both)) (place.1) (aparts.1)
    (ap (are_distinct int_eq) (append_assoc targets (g ∷ []) gs) ∙ once) (fits.1)))

pub source_run : (spec : Data) → IsSound spec → (ts : List Table) (v : ℕ) (rows : List Row) (s : ℤ) (gs : List ℤ) (xs : List Cell)
    → is_place (modes_of spec v) s ≡ true → is_used rows s ≡ false → nat_le 1 (length xs) ≡ true → length gs ≡ length xs
    → list_all (is_place (modes_of spec v)) gs ≡ true → list_any (int_eq s) gs ≡ false → are_distinct int_eq gs ≡ true → list_all (is_cell_fit spec) xs ≡ true
    → Runs (state spec (entries_of spec) ts (Some (table_with v Modes (Some v) rows []))) (draft_targets spec v s gs xs)
    (state spec (entries_of spec) ts (Some (table_with v Modes (Some v) (rows ++ row_as (s ∷ []) xs gs ∷ []) [])))
source_run spec sound ts v rows s gs [] from new some both places apart once fit = let e = leb-true 1 0 some in absurd (omega (arith, e))
source_run spec sound ts v rows s [] (x ∷ xs) from new some both places apart once fit = absurd (omega (arith, both))
source_run spec sound ts v rows s (g ∷ gs) (x ∷ xs) from new some both places apart once fit =
    let place = and_parts (is_place (modes_of spec v) g) (list_all (is_place (modes_of spec v)) gs) places in
    let aparts = or_none (int_eq s g) (list_any (int_eq s) gs) apart in
    let fits = and_parts (is_cell_fit spec x) (list_all (is_cell_fit spec) xs) fit in
    let formed = (and_parts (is_cell_formed Modes x) (is_cell_over spec x && cell_passes (is_cond_typed spec) x) (fits.0)).0 in
    let added : rows_with s g (cell_event x) rows ≡ rows ++ row_as (s ∷ []) (x ∷ []) (g ∷ []) ∷ [] =
    new_row s g (cell_event x) rows new ∙ ap (λ c. rows ++ row_as (s ∷ []) (c ∷ []) (g ∷ []) ∷ []) (event_cell x formed) in
    runs_join
    (runs_to (ap (λ rows. state spec (entries_of spec) ts (Some (table_with v Modes (Some v) rows []))) added)
    (transition_step spec sound ts v rows s g x from (place.0) (aparts.0) (fits.0)))
    (targets_run spec sound ts v rows s (x ∷ []) (g ∷ []) gs xs from new refl (omega (arith, both)) (place.1) (aparts.1) once (fits.1))

-- ---- the lines of all rows

-- what the rules give for each row of a mode table
abbrev pub is_source_fit : Data → ℕ → Row → Bool
is_source_fit spec v row = (is_row_over spec row && row_passes (is_cond_typed spec) row) && (is_row_formed Modes row && is_transition (modes_of spec v) row)

pub record IsSourceFit (spec : Data) (v : ℕ) (modes : List ℤ) (cells : List Cell) (targets : List ℤ) : Type 0 where
  pub some : nat_le 1 (length cells) ≡ true
  pub fit : list_all (is_cell_fit spec) cells ≡ true
  pub one : length modes ≡ 1
  pub each : length targets ≡ length cells
  pub places : list_all (is_place (modes_of spec v)) targets ≡ true
  pub once : are_distinct int_eq targets ≡ true
  pub leaves : list_all (λ source. not (list_any (int_eq source) targets)) modes ≡ true

fit_of : (spec : Data) (v : ℕ) (modes : List ℤ) (cells : List Cell) (targets : List ℤ) → is_source_fit spec v (row_as modes cells targets) ≡ true → IsSourceFit spec v modes cells targets
fit_of spec v modes cells targets h =
    let row = row_as modes cells targets in
    let all = and_parts (is_row_over spec row && row_passes (is_cond_typed spec) row) (is_row_formed Modes row && is_transition (modes_of spec v) row) h in
    let left = and_parts (is_row_over spec row) (row_passes (is_cond_typed spec) row) (all.0) in
    let right = and_parts (is_row_formed Modes row) (is_transition (modes_of spec v) row) (all.1) in
    let narrow = and_parts (list_all (is_cell_over spec) cells && list_all is_narrow modes) (list_all is_narrow targets) (left.0) in
    let over = (and_parts (list_all (is_cell_over spec) cells) (list_all is_narrow modes) (narrow.0)).0 in
    let formed = and_parts (nat_le 1 (length cells)) (list_all (is_cell_formed Modes) cells) (right.0) in
    let t4 = and_parts (nat_eq (length modes) 1 && nat_eq (length targets) (length cells) && list_all (is_place (modes_of spec v)) targets && are_distinct int_eq targets)
    (list_all (λ source. not (list_any (int_eq source) targets)) modes) (right.1) in
    let t3 = and_parts (nat_eq (length modes) 1 && nat_eq (length targets) (length cells) && list_all (is_place (modes_of spec v)) targets) (are_distinct int_eq targets) (t4.0) in
    let t2 = and_parts (nat_eq (length modes) 1 && nat_eq (length targets) (length cells)) (list_all (is_place (modes_of spec v)) targets) (t3.0) in
    let t1 = and_parts (nat_eq (length modes) 1) (nat_eq (length targets) (length cells)) (t2.0) in
    record {
      some = formed.0;
      fit = all_both (is_cell_formed Modes) (λ x. is_cell_over spec x && cell_passes (is_cond_typed spec) x) cells (formed.1) (all_both (is_cell_over spec) (cell_passes (is_cond_typed spec)) cells over (left.1));
      one = eqb-true (length modes) 1 (t1.0);
      each = eqb-true (length targets) (length cells) (t1.1);
      places = t2.1;
      once = t3.1;
      leaves = t4.1;
    }

not_false : (b : Bool) → not b ≡ true → b ≡ false
not_false true h = absurd (cc)
not_false false h = refl

row_run : (spec : Data) → IsSound spec → (ts : List Table) (v : ℕ) (rows : List Row) (modes : List ℤ) (cells : List Cell) (targets : List ℤ) (later : List ℤ) → IsSourceFit spec v modes cells targets
    → list_all (is_place (modes_of spec v)) modes ≡ true → are_distinct int_eq (named_modes rows ++ (modes ++ later)) ≡ true
    → Runs (state spec (entries_of spec) ts (Some (table_with v Modes (Some v) rows []))) (draft_source spec v (row_as modes cells targets))
    (state spec (entries_of spec) ts (Some (table_with v Modes (Some v) (rows ++ row_as modes cells targets ∷ []) [])))
row_run spec sound ts v rows [] cells targets later fit places once = let e = fit.one in absurd (omega (arith, e))
row_run spec sound ts v rows (s ∷ []) cells targets later fit places once =
    source_run spec sound ts v rows s targets cells ((and_parts (is_place (modes_of spec v) s) true places).0)
    (sym (used_named rows s) ∙ fresh_code (named_modes rows) later s once) fit.some fit.each fit.places
    (not_false (list_any (int_eq s) targets) ((and_parts (not (list_any (int_eq s) targets)) true fit.leaves).0)) fit.once fit.fit
row_run spec sound ts v rows (s ∷ r ∷ modes) cells targets later fit places once = let e = fit.one in absurd (omega (arith, e))

pub sources_run : (spec : Data) → IsSound spec → (ts : List Table) (v : ℕ) (past rows : List Row) → list_all (is_source_fit spec v) rows ≡ true
    → list_all (is_place (modes_of spec v)) (named_modes rows) ≡ true → are_distinct int_eq (named_modes past ++ named_modes rows) ≡ true
    → Runs (state spec (entries_of spec) ts (Some (table_with v Modes (Some v) past []))) (flat_map (draft_source spec v) rows)
    (state spec (entries_of spec) ts (Some (table_with v Modes (Some v) (past ++ rows) [])))
sources_run spec sound ts v past [] fit places once =
    runs_to (ap (λ rows. state spec (entries_of spec) ts (Some (table_with v Modes (Some v) rows []))) (sym (append-nil past))) (no_statement (state spec (entries_of spec) ts (Some (table_with v Modes (Some v) past []))))
sources_run spec sound ts v past (row ∷ rows) fit places once =
    let fits = and_parts (is_source_fit spec v row) (list_all (is_source_fit spec v) rows) fit in
    let place = and_parts (list_all (is_place (modes_of spec v)) row.modes) (list_all (is_place (modes_of spec v)) (named_modes rows))
    (sym (list_all-append (is_place (modes_of spec v)) row.modes (named_modes rows)) ∙ places) in
    let next : are_distinct int_eq (named_modes (past ++ row ∷ []) ++ named_modes rows) ≡ true =
    ap (λ codes. are_distinct int_eq (codes ++ named_modes rows)) (flat_map-append (λ (r : Row). r.modes) past (row ∷ []) ∙ ap (λ codes. named_modes past ++ codes) (append-nil row.modes))
    ∙ ap (are_distinct int_eq) (append_assoc (named_modes past) row.modes (named_modes rows)) ∙ once in
    runs_join (row_run spec sound ts v past row.modes row.cells row.targets (named_modes rows) (fit_of spec v row.modes row.cells row.targets (fits.0)) (place.0) once)
    (runs_to (ap (λ rows. state spec (entries_of spec) ts (Some (table_with v Modes (Some v) rows []))) (append_assoc past (row ∷ []) rows))
    (sources_run spec sound ts v (past ++ row ∷ []) rows (fits.1) (place.1) next))
