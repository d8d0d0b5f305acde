-- What the statement of a cell, and those of a row, do.
use Rattle.std.proofs.Common.{◌≡◌, ℕ, ◌<◌, ℤ, pos, Bool, true, false, cond, ◌||◌, List, [], ◌∷◌, ◌++◌, map, length, Option, Some, None, inl, inr, refl, sym, ap, ◌∙◌, arith, IsTrue}
use Rattle.std.specs.Prelude.{slice_get, slice_set, slice_index_or}
use Rattle.std.specs.Option.{option_map_or, option_and_then}
use Rattle.std.specs.List.{list_all, list_any}
use Rattle.std.proofs.lemmas.Bool.{cases_eq, false≢true}
use Rattle.std.proofs.lemmas.List.{length-set, get_or-set_same, get_or-set_other, set-set}
use Rattle.scr_spec.specs.Data.{Data}
use Rattle.scr_spec.specs.declared.cond.Expr.{Expr}
use Rattle.scr_spec.specs.declared.table.Cell.{Cell}
use Rattle.scr_spec.specs.declared.table.Cell.TheVariants as cell
use Rattle.scr_spec.specs.declared.table.Row.{Row}
use Rattle.scr_spec.specs.declared.table.Heading.{Heading}
use Rattle.scr_spec.specs.declared.table.Heading.TheVariants.{Condition, Event, Modes}
use Rattle.scr_spec.specs.declared.table.Table.{Table}
use Rattle.scr_spec.specs.Meaning.{Codes, code_of, side_value}
use Rattle.scr_spec.specs.Domains.{IsTyped}
use Rattle.scr_spec.specs.Over.{is_side_over}
use Rattle.scr_spec.specs.Typed.{is_cond_typed}
use Rattle.scr_spec.specs.Parts.{cell_passes}
use Rattle.scr_spec.specs.Cells.{cell_true, is_cell_over}
use Rattle.scr_spec.specs.Tables.{is_cell_formed}
use Rattle.scr_spec.specs.Relations.{cell_value}
use Rattle.scr_spec.proofs.Lookup.{all_get}
use Rattle.scr_depend.specs.Reads.{cell_reads, row_reads, value_reads, table_reads}
use Rattle.c_subset.specs.declared.expr.CExpr.{CExpr}
use Rattle.run_step.proofs.Lists.{any_there}
use Rattle.c_subset.specs.declared.expr.CExpr.TheVariants.{Constant}
use Rattle.c_subset.specs.declared.stmt.CStmt.TheVariants.{Assign}
use Rattle.c_subset.specs.Meaning.{Objects, Names, name_value, number_of, truth_of}
use Rattle.c_subset.specs.Statements.{Calls, assign, effect_of, block_effect}
use Rattle.c_writer.specs.Objects.{new_object, old_object}
use Rattle.c_writer.specs.Sides.{side_expr}
use Rattle.c_writer.specs.Conditions.{truth_expr}
use Rattle.c_writer.specs.Tables.{cell_expr, column_cond, value_expr, cell_stmt}
use Rattle.c_writer.proofs.Meanings.{number_of-Constant, effect_of-Assign, effect_of-If, block_then}
use Rattle.c_writer.proofs.ConditionTruths.{AreShown, cond_truth, side_primed_named, side_value_number, truth_truth}
use Rattle.c_writer.proofs.EventTruths.{OldShown, event_truth}

-- ---- rows of objects

-- the new codes stand before the old ones
pub record IsLaid (names : Names) (spec : Data) (old : Codes) : Type 0 where
  pub new_read : (codes : Codes) (w : ℕ) → length codes ≡ length spec.variables → w < length spec.variables → name_value names (codes ++ old) (new_object spec w) ≡ Some (code_of codes w)
  pub old_read : (codes : Codes) (w : ℕ) → length codes ≡ length spec.variables → w < length spec.variables → name_value names (codes ++ old) (old_object spec w) ≡ Some (code_of old w)
  pub assigned : (codes : Codes) (v : ℕ) (z : ℤ) → length codes ≡ length spec.variables → v < length spec.variables
      → assign names.objects (new_object spec v) z (codes ++ old) ≡ Some (slice_set codes v z ++ old)

-- what the table reads in the new state stands in the codes
abbrev pub Agrees : Data → Table → Codes → Codes → Type 0
Agrees spec table new codes = (w : ℕ) → w < length spec.variables → IsTrue (table_reads w table) → code_of codes w ≡ code_of new w

-- ---- cells

cell_truth : (names : Names) (row : Objects) (spec : Data) (old new : Codes) (h : Heading) (c : Cell) → IsTyped spec old → IsTyped spec new → OldShown names row spec old
    → IsTrue (is_cell_formed h c) → IsTrue (is_cell_over spec c) → IsTrue (cell_passes (is_cond_typed spec) c) → AreShown names row spec (new_object spec) new (λ w. cell_reads w c)
    → truth_of names row (cell_expr spec c) ≡ Some (cell_true spec h old new c)
cell_truth names row spec old new Condition (cell.Cond c) t u saved formed over typed shown = cond_truth names row spec (new_object spec) new u c (record { over = over; typed = typed; shown = shown })
cell_truth names row spec old new Condition (cell.Event e) t u saved formed over typed shown = absurd (false≢true formed)
cell_truth names row spec old new Event (cell.Cond c) t u saved formed over typed shown = absurd (false≢true formed)
cell_truth names row spec old new Event (cell.Event e) t u saved formed over typed shown = event_truth names row spec old new e t u saved over typed shown
cell_truth names row spec old new Modes (cell.Cond c) t u saved formed over typed shown = absurd (false≢true formed)
cell_truth names row spec old new Modes (cell.Event e) t u saved formed over typed shown = event_truth names row spec old new e t u saved over typed shown

-- what is asked of a row
pub record IsRowReady (spec : Data) (table : Table) (r : Row) : Type 0 where
  pub over : IsTrue (list_all (is_cell_over spec) r.cells)
  pub typed : IsTrue (list_all (cell_passes (is_cond_typed spec)) r.cells)
  pub formed : IsTrue (list_all (is_cell_formed table.heading) r.cells)
  pub reads : (w : ℕ) → IsTrue (row_reads w r) → IsTrue (table_reads w table)

-- the cell of a column, apart from the modes of its row
abbrev pub column_true : Data → Table → Codes → Codes → Row → ℕ → Bool
column_true spec table old new r column = option_map_or (cell_true spec table.heading old new) (slice_get r.cells column) false

found_truth : (names : Names) (row : Objects) (spec : Data) (table : Table) (old new : Codes) (r : Row) (column : ℕ) (o : Option Cell) → slice_get r.cells column ≡ o → IsTyped spec old → IsTyped spec new
    → OldShown names row spec old → IsRowReady spec table r → AreShown names row spec (new_object spec) new (λ w. row_reads w r)
    → truth_of names row (option_map_or (cell_expr spec) o (truth_expr false)) ≡ Some (option_map_or (cell_true spec table.heading old new) o false)
found_truth names row spec table old new r column None e t u saved ready shown = truth_truth names row false
found_truth names row spec table old new r column (Some c) e t u saved ready shown =
    cell_truth names row spec old new table.heading c t u saved (all_get (is_cell_formed table.heading) r.cells column c ready.formed e) (all_get (is_cell_over spec) r.cells column c ready.over e)
    (all_get (cell_passes (is_cond_typed spec)) r.cells column c ready.typed e) (λ w lt h. shown w lt (any_there (cell_reads w) r.cells column c e h))

-- ---- values

-- what is asked of the values
pub record AreValuesReady (spec : Data) (table : Table) : Type 0 where
  pub over : IsTrue (list_all (is_side_over spec) table.values)
  pub reads : (w : ℕ) → IsTrue (list_any (value_reads table.heading w) table.values) → IsTrue (table_reads w table)

condition_number : (names : Names) (row : Objects) (spec : Data) (table : Table) (old new : Codes) (column : ℕ) (o : Option Expr) → slice_get table.values column ≡ o → IsTyped spec new
    → IsTrue (list_all (is_side_over spec) table.values) → AreShown names row spec (new_object spec) new (λ w. list_any (value_reads Condition w) table.values)
    → number_of names row (option_map_or (side_expr spec (new_object spec) (new_object spec)) o (Constant (pos 0))) ≡ Some (option_map_or (side_value spec new new) o (pos 0))
condition_number names row spec table old new column None e u over shown = number_of-Constant names row (pos 0)
condition_number names row spec table old new column (Some x) e u over shown =
    side_value_number names row spec (new_object spec) (new_object spec) new new x u u (all_get (is_side_over spec) table.values column x over e)
    (λ w lt h. shown w lt (any_there (value_reads Condition w) table.values column x e h))
    (λ w lt h. shown w lt (any_there (value_reads Condition w) table.values column x e (side_primed_named w x h)))

event_number : (names : Names) (row : Objects) (spec : Data) (table : Table) (old new : Codes) (column : ℕ) (o : Option Expr) → slice_get table.values column ≡ o → IsTyped spec old → IsTyped spec new
    → OldShown names row spec old → IsTrue (list_all (is_side_over spec) table.values) → AreShown names row spec (new_object spec) new (λ w. list_any (value_reads Event w) table.values)
    → number_of names row (option_map_or (side_expr spec (old_object spec) (new_object spec)) o (Constant (pos 0))) ≡ Some (option_map_or (side_value spec old new) o (pos 0))
event_number names row spec table old new column None e t u saved over shown = number_of-Constant names row (pos 0)
event_number names row spec table old new column (Some x) e t u saved over shown =
    side_value_number names row spec (old_object spec) (new_object spec) old new x t u (all_get (is_side_over spec) table.values column x over e)
    (λ w lt h. saved w lt)
    (λ w lt h. shown w lt (any_there (value_reads Event w) table.values column x e h))

value_number : (names : Names) (row : Objects) (spec : Data) (table : Table) (old new : Codes) (r : Row) (column : ℕ) (h : Heading) → IsTyped spec old → IsTyped spec new
    → OldShown names row spec old → IsTrue (list_all (is_side_over spec) table.values) → AreShown names row spec (new_object spec) new (λ w. list_any (value_reads h w) table.values)
    → number_of names row (value_expr spec table r column h) ≡ Some (cell_value spec table r column h old new)
value_number names row spec table old new r column Condition t u saved over shown = condition_number names row spec table old new column (slice_get table.values column) refl u over shown
value_number names row spec table old new r column Event t u saved over shown = event_number names row spec table old new column (slice_get table.values column) refl t u saved over shown
value_number names row spec table old new r column Modes t u saved over shown = number_of-Constant names row (slice_index_or r.targets column (pos 0))

-- ---- statements

-- the codes after the variable took its new one
abbrev pub taken : Table → Codes → Codes → Codes
taken table new codes = slice_set codes table.variable (code_of new table.variable)

abbrev pub taken_if : Bool → Table → Codes → Codes → Codes
taken_if b table new codes = cond b (taken table new codes) codes

-- all that is known where the statements of a table run
pub record IsRunning (names : Names) (spec : Data) (table : Table) (old new : Codes) : Type 0 where
  pub laid : IsLaid names spec old
  pub old_typed : IsTyped spec old
  pub new_typed : IsTyped spec new
  pub there : table.variable < length spec.variables
  pub values : AreValuesReady spec table

agrees_taken : (spec : Data) (table : Table) (new codes : Codes) → length codes ≡ length spec.variables → table.variable < length spec.variables → Agrees spec table new codes
    → Agrees spec table new (taken table new codes)
agrees_taken spec table new codes n there agrees w lt h =
    elim (cases_eq w table.variable) [
      | inl e ↦ ap (code_of (taken table new codes)) e ∙ get_or-set_same codes table.variable (code_of new table.variable) (pos 0) (omega (arith, n, there)) ∙ sym (ap (code_of new) e)
      | inr d ↦ get_or-set_other codes table.variable w (code_of new table.variable) (pos 0) d ∙ agrees w lt h
    ]

pub taken_length : (table : Table) (new codes : Codes) → length (taken table new codes) ≡ length codes
taken_length table new codes = length-set codes table.variable (code_of new table.variable)

pub agrees_if : (spec : Data) (table : Table) (new codes : Codes) (b : Bool) → length codes ≡ length spec.variables → table.variable < length spec.variables → Agrees spec table new codes
    → (length (taken_if b table new codes) ≡ length spec.variables) × Agrees spec table new (taken_if b table new codes)
agrees_if spec table new codes true n there agrees = (taken_length table new codes ∙ n, agrees_taken spec table new codes n there agrees)
agrees_if spec table new codes false n there agrees = (n, agrees)

chosen_effect : (names : Names) (calls : Calls) (spec : Data) (table : Table) (old new codes : Codes) (e : CExpr) (b : Bool) → IsLaid names spec old → length codes ≡ length spec.variables → table.variable < length spec.variables
    → (IsTrue b → number_of names (codes ++ old) e ≡ Some (code_of new table.variable))
    → cond b (block_effect names calls (Assign (new_object spec table.variable) e ∷ []) (codes ++ old)) (block_effect names calls [] (codes ++ old)) ≡ Some (taken_if b table new codes ++ old)
chosen_effect names calls spec table old new codes e true laid n there value =
    block_then names calls (Assign (new_object spec table.variable) e) [] (codes ++ old) (taken table new codes ++ old)
    (effect_of-Assign names calls (new_object spec table.variable) e (codes ++ old)
    ∙ ap (option_and_then (λ z. assign names.objects (new_object spec table.variable) z (codes ++ old))) (value refl)
    ∙ laid.assigned codes table.variable (code_of new table.variable) n there)
chosen_effect names calls spec table old new codes e false laid n there value = refl

-- the statement of a cell
cell_effect : (names : Names) (calls : Calls) (spec : Data) (table : Table) (old new : Codes) (r : Row) (column : ℕ) (codes : Codes) → IsRunning names spec table old new → IsRowReady spec table r
    → length codes ≡ length spec.variables → Agrees spec table new codes
    → (IsTrue (column_true spec table old new r column) → cell_value spec table r column table.heading old new ≡ code_of new table.variable)
    → effect_of names calls (cell_stmt spec table r column) (codes ++ old) ≡ Some (taken_if (column_true spec table old new r column) table new codes ++ old)
cell_effect names calls spec table old new r column codes running ready n agrees one =
    let row = codes ++ old in
    let saved : OldShown names row spec old = λ w lt. running.laid.old_read codes w n lt in
    let shown : (w : ℕ) → w < length spec.variables → IsTrue (table_reads w table) → name_value names row (new_object spec w) ≡ Some (code_of new w)
    = λ w lt h. running.laid.new_read codes w n lt ∙ ap (λ z. Some z) (agrees w lt h) in
    let e = value_expr spec table r column table.heading in
    let number : number_of names row e ≡ Some (cell_value spec table r column table.heading old new)
    = value_number names row spec table old new r column table.heading running.old_typed running.new_typed saved running.values.over (λ w lt h. shown w lt (running.values.reads w h)) in
    effect_of-If names calls (column_cond spec r column) (Assign (new_object spec table.variable) e ∷ []) [] row
    ∙ ap (option_and_then (λ b. cond b (block_effect names calls (Assign (new_object spec table.variable) e ∷ []) row) (block_effect names calls [] row)))
    (found_truth names row spec table old new r column (slice_get r.cells column) refl running.old_typed running.new_typed saved ready (λ w lt h. shown w lt (ready.reads w h)))
    ∙ chosen_effect names calls spec table old new codes e (column_true spec table old new r column) running.laid n running.there (λ h. number ∙ ap (λ z. Some z) (one h))

pub taken_twice : (table : Table) (new codes : Codes) (a b : Bool) → taken_if b table new (taken_if a table new codes) ≡ taken_if (a || b) table new codes
taken_twice table new codes true true = set-set codes table.variable (code_of new table.variable) (code_of new table.variable)
taken_twice table new codes true false = refl
taken_twice table new codes false b = refl

-- the statements of columns
pub columns_effect : (names : Names) (calls : Calls) (spec : Data) (table : Table) (old new : Codes) (r : Row) (columns : List ℕ) (codes : Codes) → IsRunning names spec table old new → IsRowReady spec table r
    → length codes ≡ length spec.variables → Agrees spec table new codes
    → ((column : ℕ) → IsTrue (column_true spec table old new r column) → cell_value spec table r column table.heading old new ≡ code_of new table.variable)
    → block_effect names calls (map (cell_stmt spec table r) columns) (codes ++ old) ≡ Some (taken_if (list_any (column_true spec table old new r) columns) table new codes ++ old)
columns_effect names calls spec table old new r [] codes running ready n agrees one = refl
columns_effect names calls spec table old new r (column ∷ columns) codes running ready n agrees one =
    let b = column_true spec table old new r column in
    let next = taken_if b table new codes in
    let still = agrees_if spec table new codes b n running.there agrees in
    block_then names calls (cell_stmt spec table r column) (map (cell_stmt spec table r) columns) (codes ++ old) (next ++ old)
    (cell_effect names calls spec table old new r column codes running ready n agrees (one column))
    ∙ columns_effect names calls spec table old new r columns next running ready still.0 still.1 one
    ∙ ap (λ x. Some (x ++ old)) (taken_twice table new codes b (list_any (column_true spec table old new r) columns))
