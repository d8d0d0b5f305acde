-- What a specification that passed its checks gives for its tables and their order.
use Rattle.std.proofs.Common.{◌≡◌, ℕ, suc, ◌<◌, true, false, ◌&&◌, List, [], ◌∷◌, length, get_or, Option, Some, None, inl, inr, refl, sym, subst, ◌∙◌, IsTrue}
use Rattle.std.specs.Prelude.{slice_get, nat_le, nat_lt, nat_eq}
use Rattle.std.specs.Ordering.{int_eq}
use Rattle.std.specs.List.{list_all, list_any, AllByRecursion as Each}
use Rattle.std.proofs.lemmas.Bool.{and_parts, ltb-true, or_left, or_right}
use Rattle.scr_spec.specs.Data.{Data}
use Rattle.scr_spec.specs.declared.state.Input.{Input}
use Rattle.scr_spec.specs.declared.table.Row.{Row}
use Rattle.scr_spec.specs.declared.table.Table.{Table}
use Rattle.scr_spec.specs.Meaning.{Codes, code_of}
use Rattle.scr_spec.specs.Distinct.{are_distinct}
use Rattle.scr_spec.specs.Typed.{is_cond_typed}
use Rattle.scr_spec.specs.Types.{is_narrow}
use Rattle.scr_spec.specs.Parts.{row_passes, conds_pass}
use Rattle.scr_spec.specs.Over.{is_side_over}
use Rattle.scr_spec.specs.Cells.{looked_at, row_cell_true, is_cell_over, is_class_over, is_row_over, is_small}
use Rattle.scr_spec.specs.Tables.{is_cell_formed, is_row_formed, are_cells_formed}
use Rattle.scr_spec.specs.RowModes.{named_modes, are_modes_of, are_modes_sound}
use Rattle.scr_spec.specs.Relations.{is_dependent, table_of, cell_value, some_holds, table_relates}
use Rattle.scr_spec.specs.Sound.{IsSound}
use Rattle.scr_spec.proofs.Found.{all_find, table_over}
use Rattle.scr_spec.proofs.Kept.{rules_kept}
use Rattle.scr_spec.proofs.Lookup.{all_get}
use Rattle.scr_depend.specs.Reads.{class_reads, row_reads, value_reads, table_reads}
use Rattle.scr_depend.specs.declared.order.Order.{Order}
use Rattle.scr_depend.specs.Meets.{MeetsChecks}
use Rattle.run_step.specs.Runs.{IsConsistent, IsStep}
use Rattle.run_step.specs.Given.{Gives, GivesOrKeeps}
use Rattle.scr_depend.specs.Passes.{PassesChecks}
use Rattle.run_step.proofs.Cells.{IsJudged, none_holds, none_gives, relation_gives, code_once}
use Rattle.run_step.proofs.Apart.{rows_apart}
use Rattle.run_step.proofs.Order.{placed, not_both, one_of, dependent_within, table_variable, tabled, checked}
use Rattle.run_step.proofs.Settle.{judged, relation_at}
use Rattle.run_step.proofs.Next.{related_pair}
use Rattle.run_step.proofs.Lists.{any_there}
use Rattle.c_writer.proofs.CellRuns.{IsRowReady, AreValuesReady}
use Rattle.c_writer.proofs.TableRuns.{IsRowRight, IsClassRight}
use Rattle.c_writer.proofs.StepRuns.{IsPlaced, IsVariableRight}

-- ---- what the table reads

row_reads_in : (table : Table) (k w : ℕ) (r : Row) → slice_get table.rows k ≡ Some r → IsTrue (row_reads w r) → IsTrue (table_reads w table)
unfolding table_reads
row_reads_in table k w r e h = or_right (class_reads table.heading w table.class) _ (or_left _ _ (any_there (row_reads w) table.rows k r e h))

value_reads_in : (table : Table) (w : ℕ) → IsTrue (list_any (value_reads table.heading w) table.values) → IsTrue (table_reads w table)
unfolding table_reads
value_reads_in table w h = or_right (class_reads table.heading w table.class) _ (or_right (list_any (row_reads w) table.rows) _ h)

-- ---- its rows, class and values are as the rules say

pub each_placed : {X : Type 0} (P : X → Type 0) (xs : List X) → ((k : ℕ) (x : X) → slice_get xs k ≡ Some x → P x) → Each P xs
each_placed P [] f = tt
each_placed P (x ∷ xs) f = (f 0 x refl, each_placed P xs (λ k y e. f (suc k) y e))

pub row_ready : (spec : Data) (v : ℕ) (table : Table) → IsSound spec → table_of spec v ≡ Some table → (k : ℕ) (r : Row) → slice_get table.rows k ≡ Some r → IsRowReady spec table r
row_ready spec v table sound found k r e =
    let rules = rules_kept spec sound in
    let all = table_over spec v table sound found in
    let rows = (and_parts (is_class_over spec table.class) (list_all (is_row_over spec) table.rows)
    ((and_parts (is_class_over spec table.class && list_all (is_row_over spec) table.rows) (nat_lt table.variable (length spec.variables))
    ((and_parts (is_class_over spec table.class && list_all (is_row_over spec) table.rows && nat_lt table.variable (length spec.variables)) (list_all (is_side_over spec) table.values)
    ((and_parts (is_class_over spec table.class && list_all (is_row_over spec) table.rows && nat_lt table.variable (length spec.variables) && list_all (is_side_over spec) table.values) (is_small table) all).0)).0)).0)).1 in
    let row = all_get (is_row_over spec) table.rows k r rows e in
    let typed = all_find (conds_pass (is_cond_typed spec)) (λ t. nat_eq t.variable v) spec.tables table rules.conditioned.typed found in
    let formed = all_find are_cells_formed (λ t. nat_eq t.variable v) spec.tables table rules.tabled.cells found in
    let shape = all_get (is_row_formed table.heading) table.rows k r formed e in
    record {
      over = (and_parts (list_all (is_cell_over spec) r.cells) (list_all is_narrow r.modes) ((and_parts (list_all (is_cell_over spec) r.cells && list_all is_narrow r.modes) (list_all is_narrow r.targets) row).0)).0;
      typed = all_get (row_passes (is_cond_typed spec)) table.rows k r typed e;
      formed = (and_parts (nat_le 1 (length r.cells)) (list_all (is_cell_formed table.heading) r.cells) shape).1;
      reads = λ w h. row_reads_in table k w r e h;
    }

pub values_ready : (spec : Data) (v : ℕ) (table : Table) → IsSound spec → table_of spec v ≡ Some table → AreValuesReady spec table
values_ready spec v table sound found =
    let all = table_over spec v table sound found in
    record {
      over = (and_parts (is_class_over spec table.class && list_all (is_row_over spec) table.rows && nat_lt table.variable (length spec.variables)) (list_all (is_side_over spec) table.values)
          ((and_parts (is_class_over spec table.class && list_all (is_row_over spec) table.rows && nat_lt table.variable (length spec.variables) && list_all (is_side_over spec) table.values) (is_small table) all).0)).1;
      reads = λ w h. value_reads_in table w h;
    }

class_of : (spec : Data) (table : Table) (o : Option ℕ) → IsTrue (is_class_over spec o) → IsTrue (are_modes_of spec o table.rows) → IsClassRight spec table o
class_of spec table None over modes = tt
class_of spec table (Some m) over modes = (ltb-true _ _ over, (and_parts _ (are_distinct int_eq (named_modes table.rows)) modes).1)

pub class_right : (spec : Data) (v : ℕ) (table : Table) → IsSound spec → table_of spec v ≡ Some table → IsClassRight spec table table.class
class_right spec v table sound found =
    let all = table_over spec v table sound found in
    let class = (and_parts (is_class_over spec table.class) (list_all (is_row_over spec) table.rows)
    ((and_parts (is_class_over spec table.class && list_all (is_row_over spec) table.rows) (nat_lt table.variable (length spec.variables))
    ((and_parts (is_class_over spec table.class && list_all (is_row_over spec) table.rows && nat_lt table.variable (length spec.variables)) (list_all (is_side_over spec) table.values)
    ((and_parts (is_class_over spec table.class && list_all (is_row_over spec) table.rows && nat_lt table.variable (length spec.variables) && list_all (is_side_over spec) table.values) (is_small table) all).0)).0)).0)).0 in
    class_of spec table table.class class (all_find (are_modes_sound spec) (λ t. nat_eq t.variable v) spec.tables table (rules_kept spec sound).tabled.modes found)

-- ---- in a step

-- each cell that holds has the new code
pub cell_once : (spec : Data) (v : ℕ) (table : Table) (old new : Codes) → IsSound spec → table_of spec v ≡ Some table → MeetsChecks spec table → IsJudged spec table old new
    → GivesOrKeeps spec table old new (code_of new table.variable) → (k : ℕ) (r : Row) → slice_get table.rows k ≡ Some r → (column : ℕ) → IsTrue (row_cell_true spec table old new column r)
    → cell_value spec table r column table.heading old new ≡ code_of new table.variable
cell_once spec v table old new sound found checks judged_pair g k r e column h =
    let z = cell_value spec table r column table.heading old new in
    let given : Gives spec table old new z = record { row = k; column = column; it = r; there = e; holds = h; value = refl } in
    code_once spec table old new z (code_of new table.variable) checks (rows_apart spec v table sound found (looked_at table.heading old new)) judged_pair (inl given) g

kept_code : (spec : Data) (table : Table) (old new : Codes) → GivesOrKeeps spec table old new (code_of new table.variable) → some_holds spec table old new ≡ false → code_of new table.variable ≡ code_of old table.variable
kept_code spec table old new g none =
    elim g [
      | inl given ↦ absurd (none_gives spec table old new (code_of new table.variable) (none_holds spec table old new none) given)
      | inr kept ↦ kept.1
    ]

pub variable_right : (spec : Data) (order : Order) (old : Codes) (input : Input) (new : Codes) (v : ℕ) → PassesChecks spec order → IsConsistent spec old → IsStep spec old input new → is_dependent spec v ≡ true
    → IsVariableRight spec old new v
variable_right spec order old input new v passes consistent step depends =
    let sound = passes.sound in
    let t = tabled spec v sound depends in
    let table = t.0 in
    let found = t.1 in
    let same = table_variable spec v table found in
    let relates : table_relates spec table old new table.heading ≡ true = sym (relation_at spec v table old new found) ∙ step.follows.related v depends in
    let g : GivesOrKeeps spec table old new (code_of new table.variable) = relation_gives spec table old new table.heading refl relates in
    let pair = related_pair spec v old input new sound consistent step.may_come step.follows in
    let judged_pair = judged spec v table old new found step.follows.typed pair in
    let checks = checked spec v table passes.right found in
    record {
      table = table;
      found = found;
      same = same;
      there = dependent_within spec v depends;
      rows = each_placed (IsRowRight spec table old new) table.rows
          (λ k r e. record { ready = row_ready spec v table sound found k r e; one = λ column h. cell_once spec v table old new sound found checks judged_pair g k r e column h });
      class = class_right spec v table sound found;
      values = values_ready spec v table sound found;
      kept = λ none. subst (λ u. code_of new u ≡ code_of old u) same (kept_code spec table old new g none);
    }

-- ---- the order

pub order_placed : (spec : Data) (order : Order) → PassesChecks spec order → IsPlaced spec order.list
order_placed spec order passes =
    let p = placed spec order.list passes.sound passes.ordered.ordered in
    record {
      place = λ v lt. elim (one_of spec v lt) [ inl monitored ↦ inl monitored | inr depends ↦ inr (p.place_of v depends) ];
      dependent = λ i lt monitored. not_both spec (get_or order.list i 0) (p.dependent i lt) monitored;
      once = p.once;
      before = p.before;
    }

pub order_dependent : (spec : Data) (order : Order) → PassesChecks spec order → (i : ℕ) → i < length order.list → is_dependent spec (get_or order.list i 0) ≡ true
order_dependent spec order passes i lt = (placed spec order.list passes.sound passes.ordered.ordered).dependent i lt
