-- The statements of a specification resolve to it.
use Rattle.std.proofs.Common.{◌≡◌, ℕ, zero, suc, ◌+◌, Bool, true, false, not, ◌&&◌, ◌||◌, List, [], ◌∷◌, ◌++◌, length, map, Option, Some, None, refl, sym, ap, subst, ◌∙◌, append_assoc, append-nil}
use Rattle.std.specs.Prelude.{nat_eq, nat_le, if◌then◌else◌, slice_get, sum_by}
use Rattle.std.specs.Ordering.{int_eq}
use Rattle.std.specs.List.{list_all, list_any, flat_map}
use Rattle.std.proofs.lemmas.Bool.{and_parts}
use Rattle.scr_spec.specs.Data.{Data}
use Rattle.scr_spec.specs.declared.cond.Expr.{Expr}
use Rattle.scr_spec.specs.declared.spec.Variable.{Variable}
use Rattle.scr_spec.specs.declared.table.Row.{Row}
use Rattle.scr_spec.specs.declared.table.Heading.{Heading}
use Rattle.scr_spec.specs.declared.table.Heading.TheVariants.{Condition, Event, Modes}
use Rattle.scr_spec.specs.declared.table.Table.{Table}
use Rattle.scr_spec.specs.Distinct.{are_distinct}
use Rattle.scr_spec.specs.Roles.{is_monitored_role}
use Rattle.scr_spec.specs.Over.{modes_of, is_place}
use Rattle.scr_spec.specs.Typed.{is_cond_typed}
use Rattle.scr_spec.specs.Parts.{row_passes}
use Rattle.scr_spec.specs.Cells.{is_row_over}
use Rattle.scr_spec.specs.Tables.{has_table, is_row_formed}
use Rattle.scr_spec.specs.RowModes.{named_modes, is_transition}
use Rattle.scr_spec.specs.Sound.{IsSound}
use Rattle.scr_spec.proofs.Kept.{rules_kept}
use Rattle.scr_parse.specs.declared.draft.Statement.TheVariants as st
use Rattle.scr_scope.specs.Names.{Name}
use Rattle.scr_scope.specs.Meanings.{nothing}
use Rattle.scr_resolve.specs.Tables.{first_bare}
use Rattle.scr_resolve.specs.Lines.{after}
use Rattle.scr_resolve.specs.Draft.{DraftResolves}
use Rattle.scr_scope.specs.Entries.{entries_of}
use Rattle.scr_roundtrip.proofs.Drafts.{draft_table, statements_of}
use Rattle.scr_roundtrip.proofs.Good.{all_both}
use Rattle.scr_roundtrip.proofs.TextRead.{numbered_from}
use Rattle.scr_roundtrip.proofs.Resolved.{state}
use Rattle.scr_roundtrip.proofs.Named.{more_one, no_more, zero_more, or_right, not_both}
use Rattle.scr_roundtrip.proofs.Declared.{Runs, step, runs_resolve, runs_to, runs_join, no_statement, no_fault, not_true}
use Rattle.scr_roundtrip.proofs.Opening.{declarations}
use Rattle.scr_roundtrip.proofs.Heads.{table_with, is_own_class}
use Rattle.scr_roundtrip.proofs.ModesBack.{no_modes}
use Rattle.scr_roundtrip.proofs.Transitions.{is_source_fit, sources_run}
use Rattle.scr_roundtrip.proofs.TablesBack.{end_run, is_table_kept, IsTableKept, kept_of, tables_kept, opened_run, condition_run, event_run}

-- ---- mode tables

sources_fit : (spec : Data) (v : ℕ) (rows : List Row) → IsTableKept spec (table_with v Modes (Some v) rows []) → list_all (is_source_fit spec v) rows ≡ true
sources_fit spec v rows kept =
    all_both (λ r. is_row_over spec r && row_passes (is_cond_typed spec) r) (λ r. is_row_formed Modes r && is_transition (modes_of spec v) r) rows
    (all_both (is_row_over spec) (row_passes (is_cond_typed spec)) rows kept.rows_over kept.typed) (all_both (is_row_formed Modes) (is_transition (modes_of spec v)) rows kept.cells kept.targets)

own_run : (spec : Data) → IsSound spec → (ts : List Table) (v : ℕ) (rows : List Row) → IsTableKept spec (table_with v Modes (Some v) rows []) → has_table ts v ≡ false
    → Runs (state spec (entries_of spec) ts None) (draft_table spec (table_with v Modes (Some v) rows [])) (state spec (entries_of spec) (ts ++ table_with v Modes (Some v) rows [] ∷ []) None)
own_run spec sound ts v rows kept new =
    let parts = and_parts (list_all (λ r. nat_le 1 (length r.modes)) rows && list_all (is_place (modes_of spec v)) (named_modes rows)) (are_distinct int_eq (named_modes rows)) kept.modes in
    let two = and_parts (list_all (λ r. nat_le 1 (length r.modes)) rows) (list_all (is_place (modes_of spec v)) (named_modes rows)) (parts.0) in
    opened_run spec sound ts v Modes (Some v) rows [] kept new _ _
    (runs_join (sources_run spec sound ts v [] rows (sources_fit spec v rows kept) (two.1) (parts.1)) (end_run spec (entries_of spec) ts v Modes (Some v) rows [] kept.complete))

abbrev ModeTableRuns : Data → List Table → ℕ → List Row → Option ℕ → List Expr → Type 0
ModeTableRuns spec ts v rows class values =
    IsTableKept spec (table_with v Modes class rows values)
    → Runs (state spec (entries_of spec) ts None) (draft_table spec (table_with v Modes class rows values)) (state spec (entries_of spec) (ts ++ table_with v Modes class rows values ∷ []) None)

modes_run : (spec : Data) → IsSound spec → (ts : List Table) (v : ℕ) (class : Option ℕ) (rows : List Row) (values : List Expr) → has_table ts v ≡ false → ModeTableRuns spec ts v rows class values
modes_run spec sound ts v class rows values new kept =
    subst (λ values. ModeTableRuns spec ts v rows class values) (no_modes values ((and_parts (nat_eq (length values) 0) (nat_le (sum_by (λ (r : Row). length r.cells) rows) 64) kept.layout).0))
    (subst (λ class. ModeTableRuns spec ts v rows class []) (is_own_class v class kept.class) (λ kept. own_run spec sound ts v rows kept new)) kept

-- ---- all tables

table_run : (spec : Data) → IsSound spec → (ts : List Table) (v : ℕ) (heading : Heading) (class : Option ℕ) (rows : List Row) (values : List Expr)
    → IsTableKept spec (table_with v heading class rows values) → has_table ts v ≡ false
    → Runs (state spec (entries_of spec) ts None) (draft_table spec (table_with v heading class rows values)) (state spec (entries_of spec) (ts ++ table_with v heading class rows values ∷ []) None)
table_run spec sound ts v Condition class rows values kept new = condition_run spec sound ts v class rows values kept new
table_run spec sound ts v Event class rows values kept new = event_run spec sound ts v class rows values kept new
table_run spec sound ts v Modes class rows values kept new = modes_run spec sound ts v class rows values new kept

variable_there : (k : ℕ) (ts more : List Table) (t : Table) → nat_eq k t.variable ≡ true → list_any (nat_eq k) (map (λ (t : Table). t.variable) (ts ++ t ∷ more)) ≡ true
variable_there k [] more t h = ap (λ b. b || list_any (nat_eq k) (map (λ (t : Table). t.variable) more)) h
variable_there k (x ∷ ts) more t h = or_right (nat_eq k x.variable) _ (variable_there k ts more t h)

-- a variable that has one table has none before it
no_table : (ts more : List Table) (t : Table) → are_distinct nat_eq (map (λ (t : Table). t.variable) (ts ++ t ∷ more)) ≡ true → has_table ts t.variable ≡ false
no_table [] more t d = refl
no_table (x ∷ ts) more t d =
    let parts = and_parts (not (list_any (nat_eq x.variable) (map (λ (t : Table). t.variable) (ts ++ t ∷ more)))) (are_distinct nat_eq (map (λ (t : Table). t.variable) (ts ++ t ∷ more))) d in
    let apart = not_true (nat_eq x.variable t.variable) (λ same.
    not_both (list_any (nat_eq x.variable) (map (λ (t : Table). t.variable) (ts ++ t ∷ more))) (parts.0) (variable_there x.variable ts more t same)) in
    ap (λ b. b || has_table ts t.variable) apart ∙ no_table ts more t (parts.1)

tables_run : (spec : Data) → IsSound spec → (ts more : List Table) → list_all (is_table_kept spec) more ≡ true → are_distinct nat_eq (map (λ (t : Table). t.variable) (ts ++ more)) ≡ true
    → Runs (state spec (entries_of spec) ts None) (flat_map (draft_table spec) more) (state spec (entries_of spec) (ts ++ more) None)
tables_run spec sound ts [] kept once = runs_to (ap (λ ts. state spec (entries_of spec) ts None) (sym (append-nil ts))) (no_statement (state spec (entries_of spec) ts None))
tables_run spec sound ts (t ∷ more) kept once =
    let parts = and_parts (is_table_kept spec t) (list_all (is_table_kept spec) more) kept in
    runs_join (table_run spec sound ts t.variable t.heading t.class t.rows t.values (kept_of spec t (parts.0)) (no_table ts more t once))
    (runs_to (ap (λ ts. state spec (entries_of spec) ts None) (append_assoc ts (t ∷ []) more))
    (tables_run spec sound (ts ++ t ∷ []) more (parts.1) (ap (λ ts. are_distinct nat_eq (map (λ (t : Table). t.variable) ts)) (append_assoc ts (t ∷ []) more) ∙ once)))

-- ---- FINISH

bare_step : (b : Bool) (o : Option Name) (n : Name) → b ≡ true → o ≡ None → (if b then o else Some n) ≡ None
bare_step true o n h g = g
bare_step false o n h g = absurd (cc)

either : (b c : Bool) → (b ≡ false → c ≡ true) → (b || c) ≡ true
either true c h = refl
either false c h = h refl

none_bare : (tables : List Table) (k : ℕ) (xs : List Variable) → ((j : ℕ) (x : Variable) → slice_get xs j ≡ Some x → is_monitored_role x.role ≡ false → has_table tables (k + j) ≡ true) → first_bare tables k xs ≡ None
none_bare tables k [] each = refl
none_bare tables k (x ∷ xs) each =
    bare_step (is_monitored_role x.role || has_table tables k) (first_bare tables (k + 1) xs) x.name
    (either (is_monitored_role x.role) (has_table tables k) (λ dependent. ap (has_table tables) (no_more k) ∙ each zero x refl dependent))
    (none_bare tables (k + 1) xs (λ j y e dependent. ap (has_table tables) (more_one k j) ∙ each (suc j) y e dependent))

finish_run : (spec : Data) → IsSound spec → Runs (state spec (entries_of spec) spec.tables None) (st.Finish ∷ []) (state spec (entries_of spec) spec.tables None)
unfolding after
finish_run spec sound =
    let known = state spec (entries_of spec) spec.tables None in
    let each = (rules_kept spec sound).tabled.each_tabled in
    step (no_fault known st.Finish refl refl refl refl refl refl
    (none_bare spec.tables 0 spec.variables (λ j x e dependent. ap (has_table spec.tables) (zero_more j) ∙ each j x e dependent)))
    (no_statement (after known st.Finish))

-- ---- the whole text

pub statements_run : (spec : Data) → IsSound spec → Runs nothing (statements_of spec) (state spec (entries_of spec) spec.tables None)
statements_run spec sound =
    declarations spec sound _ _
    (runs_join (tables_run spec sound [] spec.tables (tables_kept spec sound) (rules_kept spec sound).tabled.one_table) (finish_run spec sound))

pub statements_resolve : (spec : Data) → IsSound spec → (n : ℕ) → DraftResolves (numbered_from n (statements_of spec)) spec
statements_resolve spec sound n = record {
  last = state spec (entries_of spec) spec.tables None;
  resolves = runs_resolve (statements_run spec sound) n;
  parts = refl;
}
