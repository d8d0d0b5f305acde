-- What the statements of a table do.
use Rattle.std.proofs.Common.{◌≡◌, ℕ, ◌<◌, ℤ, Bool, true, false, cond, not, ◌&&◌, ◌||◌, List, [], ◌∷◌, ◌++◌, map, length, Option, Some, None, refl, sym, ap, subst, ◌∙◌, IsTrue}
use Rattle.std.specs.Option.{option_and_then}
use Rattle.std.specs.Ordering.{int_eq}
use Rattle.std.specs.List.{list_any, flat_map, range_with_len, AllByRecursion as Each}
use Rattle.std.proofs.lemmas.Bool.{and_parts, both_ways, not-true, false_from_ne_true, eq-eqb, or_left, or_right, false≢true}
use Rattle.std.proofs.lemmas.Bool.Decides.{Decides-int_eq}
use Rattle.std.proofs.lemmas.List.{map-append}
use Rattle.std.proofs.lemmas.List.Folds.{list_any-append}
use Rattle.scr_spec.specs.Data.{Data}
use Rattle.scr_spec.specs.declared.table.Row.{Row}
use Rattle.scr_spec.specs.declared.table.Heading.{Heading}
use Rattle.scr_spec.specs.declared.table.Heading.TheVariants.{Condition, Event, Modes}
use Rattle.scr_spec.specs.declared.table.Table.{Table}
use Rattle.scr_spec.specs.Meaning.{Codes, code_of}
use Rattle.scr_spec.specs.Distinct.{are_distinct}
use Rattle.scr_spec.specs.Cells.{in_modes, looked_at, row_cell_true}
use Rattle.scr_spec.specs.RowModes.{named_modes}
use Rattle.scr_spec.specs.Relations.{cell_value, some_holds}
use Rattle.scr_depend.specs.Reads.{class_reads, table_reads}
use Rattle.c_subset.specs.declared.expr.CExpr.TheVariants.{Name}
use Rattle.c_subset.specs.declared.stmt.CStmt.{CStmt}
use Rattle.c_subset.specs.declared.stmt.CStmt.TheVariants.{Switch}
use Rattle.c_subset.specs.declared.stmt.CClause.{CClause}
use Rattle.c_subset.specs.Parts.{Clause}
use Rattle.c_subset.specs.Meaning.{Objects, Names, name_value}
use Rattle.c_subset.specs.Statements.{Effect, Calls, up_to_stop, from_label, effect_of, block_effect}
use Rattle.c_writer.specs.Tables.{row_stmts, mode_clauses, row_clauses, class_object, switch_stmts, rows_stmts, table_stmts}
use Rattle.c_writer.proofs.Meanings.{number_of-Name, clause_effect, effect_of-Switch, block-cons, block-append}
use Rattle.dd_formula.proofs.JoinTruth.{list_any-same}
use Rattle.c_writer.proofs.EventTruths.{swapped}
use Rattle.c_writer.proofs.Places.{distinct_rest}
use Rattle.c_writer.proofs.CellRuns.{Agrees, IsRowReady, IsRunning, column_true, taken_if, agrees_if, taken_twice, columns_effect}

-- ---- lists

any_and : {X : Type 0} (a : Bool) (q : X → Bool) (xs : List X) → list_any (λ x. a && q x) xs ≡ a && list_any q xs
any_and true q [] = refl
any_and false q [] = refl
any_and true q (x ∷ xs) = ap (λ b. q x || b) (any_and true q xs)
any_and false q (x ∷ xs) = any_and false q xs

-- what is in the front is not in the rest
distinct_apart : (z : ℤ) (xs ys : List ℤ) → IsTrue (are_distinct int_eq (xs ++ ys)) → IsTrue (list_any (int_eq z) xs) → IsTrue (list_any (int_eq z) ys) → ⊥
distinct_apart z [] ys h m k = false≢true m
distinct_apart z (x ∷ xs) ys h m k =
    let both = and_parts (not (list_any (int_eq x) (xs ++ ys))) (are_distinct int_eq (xs ++ ys)) h in
    elim (int_eq z x) as (λ c. int_eq z x ≡ c → c || list_any (int_eq z) xs ≡ true → ⊥) [
      | true ↦ λ same there.
          let e : z ≡ x = (Decides-int_eq z x).0 same in
          let here : list_any (int_eq x) ys ≡ true = subst (λ y. list_any (int_eq y) ys ≡ true) e k in
          both_ways _ (not-true _ both.0) (list_any-append (int_eq x) xs ys ∙ or_right _ _ here)
      | false ↦ λ other there. distinct_apart z xs ys both.1 there k
    ] refl m

-- ---- clauses

-- the mode is one of these
abbrev pub has_mode : ℤ → List ℤ → Bool
has_mode z modes = list_any (λ mode. int_eq z mode) modes

abbrev effects_of : Names → Calls → List CClause → List (Clause Effect)
effects_of names calls clauses = map (clause_effect names calls) clauses

-- from any clause of a row on, its statements run, and nothing else
modes_run : (names : Names) (calls : Calls) (m : ℤ) (ms : List ℤ) (body : List CStmt) (rest : List (Clause Effect)) (row : Objects)
    → up_to_stop (effects_of names calls (mode_clauses (m ∷ ms) body) ++ rest) row ≡ block_effect names calls body row
modes_run names calls m [] body rest row = refl
modes_run names calls m (k ∷ ms) body rest row = modes_run names calls k ms body rest row

or_off : (a : Bool) → a ≡ a || false
or_off true = refl
or_off false = refl

-- a statement alone
alone_option : (o : Option Objects) → option_and_then (λ row. Some row) o ≡ o
alone_option None = refl
alone_option (Some row) = refl

alone_effect : (names : Names) (calls : Calls) (s : CStmt) (row : Objects) → block_effect names calls (s ∷ []) row ≡ effect_of names calls s row
alone_effect names calls s row = block-cons names calls s [] row ∙ alone_option (effect_of names calls s row)

-- the row is chosen where it has the mode
or_cond : {X : Type 0} (a b : Bool) (x y : X) → cond a x (cond b x y) ≡ cond (a || b) x y
or_cond true b x y = refl
or_cond false b x y = refl

or_none : {X : Type 0} (a : Bool) (x y : X) → cond a x y ≡ cond (a || false) x y
or_none true x y = refl
or_none false x y = refl

modes_chosen : (names : Names) (calls : Calls) (z : ℤ) (ms : List ℤ) (body : List CStmt) (rest : List (Clause Effect)) (row : Objects)
    → from_label z (effects_of names calls (mode_clauses ms body) ++ rest) row ≡ cond (has_mode z ms) (block_effect names calls body row) (from_label z rest row)
modes_chosen names calls z [] body rest row = refl
modes_chosen names calls z (m ∷ []) body rest row =
    ap (λ b. cond b (block_effect names calls body row) (from_label z rest row)) (swapped m z)
    ∙ or_none (int_eq z m) (block_effect names calls body row) (from_label z rest row)
modes_chosen names calls z (m ∷ k ∷ ms) body rest row =
    let after = effects_of names calls (mode_clauses (k ∷ ms) body) ++ rest in
    ap (λ x. cond (int_eq m z) x (from_label z after row)) (modes_run names calls k ms body rest row)
    ∙ ap (λ x. cond (int_eq m z) (block_effect names calls body row) x) (modes_chosen names calls z (k ∷ ms) body rest row)
    ∙ ap (λ b. cond b (block_effect names calls body row) (cond (has_mode z (k ∷ ms)) (block_effect names calls body row) (from_label z rest row))) (swapped m z)
    ∙ or_cond (int_eq z m) (has_mode z (k ∷ ms)) (block_effect names calls body row) (from_label z rest row)

-- ---- rows

-- some cell of the row is true
abbrev pub row_true : Data → Table → Codes → Codes → Row → Bool
row_true spec table old new r = list_any (column_true spec table old new r) (range_with_len 0 (length r.cells))

-- the row with its modes
abbrev pub row_holds : Data → Table → Codes → Codes → Row → Bool
row_holds spec table old new r = in_modes table.class r.modes (looked_at table.heading old new) && row_true spec table old new r

-- what is asked of a row: it is ready, and where a cell of it holds, its value is the new code
pub record IsRowRight (spec : Data) (table : Table) (old new : Codes) (r : Row) : Type 0 where
  pub ready : IsRowReady spec table r
  pub one : (column : ℕ) → IsTrue (row_cell_true spec table old new column r) → cell_value spec table r column table.heading old new ≡ code_of new table.variable

-- the statements of a row whose modes are met
row_effect : (names : Names) (calls : Calls) (spec : Data) (table : Table) (old new : Codes) (r : Row) (codes : Codes) → IsRunning names spec table old new → IsRowRight spec table old new r
    → length codes ≡ length spec.variables → Agrees spec table new codes → in_modes table.class r.modes (looked_at table.heading old new) ≡ true
    → block_effect names calls (row_stmts spec table r) (codes ++ old) ≡ Some (taken_if (row_true spec table old new r) table new codes ++ old)
row_effect names calls spec table old new r codes running right n agrees met =
    columns_effect names calls spec table old new r (range_with_len 0 (length r.cells)) codes running right.ready n agrees
    (λ column h. right.one column (ap (λ b. b && column_true spec table old new r column) met ∙ h))

-- a mode that a row has is one of those that the rows name
later_named : (spec : Data) (table : Table) (old new : Codes) (z : ℤ) (rows : List Row) → list_any (λ r. has_mode z r.modes && row_true spec table old new r) rows ≡ true
    → list_any (int_eq z) (named_modes rows) ≡ true
later_named spec table old new z [] h = absurd (false≢true h)
later_named spec table old new z (r ∷ rows) h =
    list_any-append (int_eq z) r.modes (named_modes rows)
    ∙ (elim (has_mode z r.modes) as (λ c. (c && row_true spec table old new r) || list_any (λ q. has_mode z q.modes && row_true spec table old new q) rows ≡ true → c || list_any (int_eq z) (named_modes rows) ≡ true) [
      | true ↦ λ k. refl
      | false ↦ λ k. later_named spec table old new z rows k
    ] h)

-- the number of the class chooses the one row that has it
switch_rows : (names : Names) (calls : Calls) (spec : Data) (table : Table) (old new : Codes) (m : ℕ) (rows : List Row) (codes : Codes) → table.class ≡ Some m → IsRunning names spec table old new
    → Each (IsRowRight spec table old new) rows → IsTrue (are_distinct int_eq (named_modes rows)) → length codes ≡ length spec.variables → Agrees spec table new codes
    → from_label (code_of (looked_at table.heading old new) m) (effects_of names calls (flat_map (row_clauses spec table) rows)) (codes ++ old)
    ≡ Some (taken_if (list_any (λ r. has_mode (code_of (looked_at table.heading old new) m) r.modes && row_true spec table old new r) rows) table new codes ++ old)
switch_rows names calls spec table old new m [] codes e running each d n agrees = refl
switch_rows names calls spec table old new m (r ∷ rows) codes e running each d n agrees =
    let z = code_of (looked_at table.heading old new) m in
    let row = codes ++ old in
    let rest = effects_of names calls (flat_map (row_clauses spec table) rows) in
    let body = row_stmts spec table r in
    let later = list_any (λ q. has_mode z q.modes && row_true spec table old new q) rows in
    let split : effects_of names calls (flat_map (row_clauses spec table) (r ∷ rows)) ≡ effects_of names calls (mode_clauses r.modes body) ++ rest
    = map-append (clause_effect names calls) (row_clauses spec table r) (flat_map (row_clauses spec table) rows) in
    ap (λ cs. from_label z cs row) split
    ∙ modes_chosen names calls z r.modes body rest row
    ∙ (elim (has_mode z r.modes) as (λ c. has_mode z r.modes ≡ c → cond c (block_effect names calls body row) (from_label z rest row) ≡ Some (taken_if ((c && row_true spec table old new r) || later) table new codes ++ old)) [
      | true ↦ λ has.
          let met : in_modes table.class r.modes (looked_at table.heading old new) ≡ true = ap (λ o. in_modes o r.modes (looked_at table.heading old new)) e ∙ has in
          let none : later ≡ false = false_from_ne_true later (λ k. distinct_apart z r.modes (named_modes rows) d has (later_named spec table old new z rows k)) in
          row_effect names calls spec table old new r codes running each.0 n agrees met
          ∙ ap (λ b. Some (taken_if b table new codes ++ old)) (or_off (row_true spec table old new r) ∙ ap (λ b. row_true spec table old new r || b) (sym none))
      | false ↦ λ has. switch_rows names calls spec table old new m rows codes e running each.1 (distinct_rest int_eq r.modes (named_modes rows) d) n agrees
    ] refl)

-- a switch, or nothing where there is no clause
switch_effect : (names : Names) (calls : Calls) (object : List ℕ) (z : ℤ) (clauses : List CClause) (row : Objects) → name_value names row object ≡ Some z
    → block_effect names calls (switch_stmts object clauses) row ≡ from_label z (effects_of names calls clauses) row
switch_effect names calls object z [] row e = refl
switch_effect names calls object z (c ∷ cs) row e =
    alone_effect names calls (Switch (Name object) (c ∷ cs)) row
    ∙ effect_of-Switch names calls (Name object) (c ∷ cs) row
    ∙ ap (option_and_then (λ k. from_label k (effects_of names calls (c ∷ cs)) row)) (number_of-Name names row object ∙ e)

-- rows without a class
plain_rows : (names : Names) (calls : Calls) (spec : Data) (table : Table) (old new : Codes) (rows : List Row) (codes : Codes) → table.class ≡ None → IsRunning names spec table old new
    → Each (IsRowRight spec table old new) rows → length codes ≡ length spec.variables → Agrees spec table new codes
    → block_effect names calls (flat_map (row_stmts spec table) rows) (codes ++ old) ≡ Some (taken_if (list_any (row_true spec table old new) rows) table new codes ++ old)
plain_rows names calls spec table old new [] codes e running each n agrees = refl
plain_rows names calls spec table old new (r ∷ rows) codes e running each n agrees =
    let b = row_true spec table old new r in
    let next = taken_if b table new codes in
    let still = agrees_if spec table new codes b n running.there agrees in
    let met : in_modes table.class r.modes (looked_at table.heading old new) ≡ true = ap (λ o. in_modes o r.modes (looked_at table.heading old new)) e in
    block-append names calls (row_stmts spec table r) (flat_map (row_stmts spec table) rows) (codes ++ old)
    ∙ ap (option_and_then (block_effect names calls (flat_map (row_stmts spec table) rows))) (row_effect names calls spec table old new r codes running each.0 n agrees met)
    ∙ plain_rows names calls spec table old new rows next e running each.1 still.0 still.1
    ∙ ap (λ x. Some (x ++ old)) (taken_twice table new codes b (list_any (row_true spec table old new) rows))

-- ---- tables

class_number : (names : Names) (spec : Data) (table : Table) (old new codes : Codes) (m : ℕ) (h : Heading) → IsRunning names spec table old new → length codes ≡ length spec.variables
    → ((w : ℕ) → w < length spec.variables → IsTrue (class_reads h w (Some m)) → code_of codes w ≡ code_of new w) → m < length spec.variables
    → name_value names (codes ++ old) (class_object spec h m) ≡ Some (code_of (looked_at h old new) m)
class_number names spec table old new codes m Condition running n agrees lt = running.laid.new_read codes m n lt ∙ ap (λ z. Some z) (agrees m lt (eq-eqb m m refl))
class_number names spec table old new codes m Event running n agrees lt = running.laid.old_read codes m n lt
class_number names spec table old new codes m Modes running n agrees lt = running.laid.old_read codes m n lt

class_agrees : (spec : Data) (table : Table) (new codes : Codes) (w : ℕ) → Agrees spec table new codes → w < length spec.variables → IsTrue (class_reads table.heading w table.class) → code_of codes w ≡ code_of new w
unfolding table_reads
class_agrees spec table new codes w agrees lt h = agrees w lt (or_left _ _ h)

-- what is asked of the class
abbrev pub IsClassRight : Data → Table → Option ℕ → Type 0
IsClassRight spec table None = Unit {0}
IsClassRight spec table (Some m) = (m < length spec.variables) × IsTrue (are_distinct int_eq (named_modes table.rows))

rows_effect : (names : Names) (calls : Calls) (spec : Data) (table : Table) (old new : Codes) (o : Option ℕ) (codes : Codes) → table.class ≡ o → IsRunning names spec table old new
    → Each (IsRowRight spec table old new) table.rows → IsClassRight spec table o → length codes ≡ length spec.variables → Agrees spec table new codes
    → block_effect names calls (rows_stmts spec table o) (codes ++ old) ≡ Some (taken_if (list_any (λ r. in_modes o r.modes (looked_at table.heading old new) && row_true spec table old new r) table.rows) table new codes ++ old)
rows_effect names calls spec table old new None codes e running each class n agrees = plain_rows names calls spec table old new table.rows codes e running each n agrees
rows_effect names calls spec table old new (Some m) codes e running each class n agrees =
    let number = class_number names spec table old new codes m table.heading running n (λ w lt h. class_agrees spec table new codes w agrees lt (ap (class_reads table.heading w) e ∙ h)) class.0 in
    switch_effect names calls (class_object spec table.heading m) (code_of (looked_at table.heading old new) m) (flat_map (row_clauses spec table) table.rows) (codes ++ old) number
    ∙ switch_rows names calls spec table old new m table.rows codes e running each class.1 n agrees

holds_by_rows : (spec : Data) (table : Table) (old new : Codes) → list_any (row_holds spec table old new) table.rows ≡ some_holds spec table old new
holds_by_rows spec table old new =
    list_any-same (row_holds spec table old new) (λ r. list_any (λ column. row_cell_true spec table old new column r) (range_with_len 0 (length r.cells))) table.rows
    (λ r. sym (any_and (in_modes table.class r.modes (looked_at table.heading old new)) (column_true spec table old new r) (range_with_len 0 (length r.cells))))

-- the variable takes its new code where some cell holds, and nothing else changes
pub table_effect : (names : Names) (calls : Calls) (spec : Data) (table : Table) (old new codes : Codes) → IsRunning names spec table old new → Each (IsRowRight spec table old new) table.rows
    → IsClassRight spec table table.class → length codes ≡ length spec.variables → Agrees spec table new codes
    → block_effect names calls (table_stmts spec table) (codes ++ old) ≡ Some (taken_if (some_holds spec table old new) table new codes ++ old)
table_effect names calls spec table old new codes running each class n agrees =
    rows_effect names calls spec table old new table.class codes refl running each class n agrees ∙ ap (λ b. Some (taken_if b table new codes ++ old)) (holds_by_rows spec table old new)
