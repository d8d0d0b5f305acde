-- The formulas of a table are true at the valuation of two states exactly where these meet the table.
use Rattle.std.proofs.Common.{◌≡◌, ℕ, ℤ, pos, ◌+ℤ◌, ◌-ℤ◌, neg_ℤ, Bool, true, false, not, ◌&&◌, List, [], ◌∷◌, map, length, Option, Some, None, refl, ap, ◌∙◌, arith, IsTrue}
use Rattle.std.specs.Prelude.{slice_get, IfOk, Result, Ok, Err}
use Rattle.std.specs.Ordering.{int_eq}
use Rattle.std.specs.Option.{option_map_or}
use Rattle.std.specs.List.{list_any, range_with_len}
use Rattle.std.proofs.lemmas.Int.{ints}
use Rattle.base.specs.declared.memory.NoMemory.{NoMemory}
use Rattle.scr_spec.specs.Data.{Data}
use Rattle.scr_spec.specs.declared.cond.Expr.{Expr}
use Rattle.scr_spec.specs.declared.table.Cell.{Cell}
use Rattle.scr_spec.specs.declared.table.Cell.TheVariants as cell
use Rattle.scr_spec.specs.declared.table.Row.{Row}
use Rattle.scr_spec.specs.declared.table.Heading.{Heading}
use Rattle.scr_spec.specs.declared.table.Heading.TheVariants.{Condition, Event, Modes}
use Rattle.scr_spec.specs.declared.table.Table.{Table}
use Rattle.scr_spec.specs.Meaning.{Codes, code_of, side_value}
use Rattle.scr_spec.specs.Cells.{in_modes, looked_at, cell_true, row_cell_true}
use Rattle.scr_spec.specs.Relations.{table_of, is_condition, has_condition_table, cell_value, takes_value, some_cell, some_holds, some_taken, keeps_value, meets_own, table_relates, meets_relation}
use Rattle.dd_formula.proofs.Lists.{list_any-map}
use Rattle.dd_formula.specs.declared.formula.Formula.{Formula}
use Rattle.dd_formula.specs.declared.formula.Formula.TheVariants.{False, Not}
use Rattle.dd_formula.specs.Truth.{Valuation, terms_value, holds_at}
use Rattle.prove_formula.specs.declared.side.Reading.{Reading}
use Rattle.prove_formula.specs.declared.side.Reading.TheVariants.{In, Across}
use Rattle.prove_formula.specs.Levels.{at_of, valuation_of, level_of}
use Rattle.prove_formula.specs.Sides.{plain_in_new, primed_in_new, side_terms, side_constant, negated}
use Rattle.prove_formula.specs.Conditions.{has_code}
use Rattle.dd_formula.specs.Joined.{any_of}
use Rattle.prove_formula.specs.Events.{same_code}
use Rattle.prove_formula.specs.Tables.{class_in_new, taken_in_new, under_modes, cell_formula, hold_formula, value_terms, value_constant, takes_formula, taken_formula, row_formulas, cell_formulas, some_holds_formula, some_taken_formula, kept_formula, table_formula, own_formula, relation_formula, HasTruthOfCell, HasTruthOfOwn, HasTruthOfRelation}
use Rattle.dd_formula.proofs.Totals.{total, term_value, fold_total}
use Rattle.dd_formula.proofs.FormulaLaws.{holds_at-False, holds_at-Atom, holds_at-any_of}
use Rattle.prove_formula.proofs.SideTruth.{level_read, side_sum, total-negated}
use Rattle.prove_formula.proofs.ConditionTruth.{holds_at-has_code, holds_at-condition_formula}
use Rattle.dd_formula.proofs.JoinTruth.{list_any-same, list_any-flat_map, holds_at-any_map, holds_at-both, holds_at-either, holds_at-negation}
use Rattle.prove_formula.proofs.EventTruth.{meets_difference, holds_at-same_code, holds_at-event_formula}

-- ---- cells

pub holds_at-cell_formula : (spec : Data) (s t : Codes) (h : Heading) (b : Bool) (c : Cell) → holds_at (valuation_of s t) (cell_formula spec h b c) ≡ cell_true spec h s (at_of (taken_in_new h b) s t) c
holds_at-cell_formula spec s t Condition b (cell.Cond c) = holds_at-condition_formula spec s t b c
holds_at-cell_formula spec s t Condition b (cell.Event e) = holds_at-False _
holds_at-cell_formula spec s t Event b (cell.Cond c) = holds_at-False _
holds_at-cell_formula spec s t Event b (cell.Event e) = holds_at-event_formula spec s t e
holds_at-cell_formula spec s t Modes b (cell.Cond c) = holds_at-False _
holds_at-cell_formula spec s t Modes b (cell.Event e) = holds_at-event_formula spec s t e

-- the class is read where the table looks
class_looked : (s t : Codes) (h : Heading) (b : Bool) → at_of (class_in_new h b) s t ≡ looked_at h s (at_of (taken_in_new h b) s t)
class_looked s t Condition b = refl
class_looked s t Event b = refl
class_looked s t Modes b = refl

pub holds_at-under_modes : (s t : Codes) (b : Bool) (class : Option ℕ) (modes : List ℤ) (f : Formula) (a : Bool) → holds_at (valuation_of s t) f ≡ a
    → holds_at (valuation_of s t) (under_modes b class modes f) ≡ in_modes class modes (at_of b s t) && a
holds_at-under_modes s t b None modes f a e = e
holds_at-under_modes s t b (Some v) modes f a e =
    holds_at-both _ (any_of (map (has_code b v) modes)) f (list_any (λ mode. int_eq (code_of (at_of b s t) v) mode) modes) a
    (holds_at-any_map (valuation_of s t) (has_code b v) (λ mode. int_eq (code_of (at_of b s t) v) mode) modes (λ mode. holds_at-has_code s t b v mode))
    e

holds_at-found_cell : (spec : Data) (s t : Codes) (h : Heading) (b : Bool) (o : Option Cell)
    → holds_at (valuation_of s t) (option_map_or (cell_formula spec h b) o False) ≡ option_map_or (cell_true spec h s (at_of (taken_in_new h b) s t)) o false
holds_at-found_cell spec s t h b None = holds_at-False _
holds_at-found_cell spec s t h b (Some c) = holds_at-cell_formula spec s t h b c

-- a cell holds
pub holds_at-hold_formula : (spec : Data) (table : Table) (b : Bool) (row : Row) (column : ℕ) (s t : Codes)
    → holds_at (valuation_of s t) (hold_formula spec table b row column) ≡ row_cell_true spec table s (at_of (taken_in_new table.heading b) s t) column row
holds_at-hold_formula spec table b row column s t =
    holds_at-under_modes s t (class_in_new table.heading b) table.class row.modes (option_map_or (cell_formula spec table.heading b) (slice_get row.cells column) False) _
    (holds_at-found_cell spec s t table.heading b (slice_get row.cells column))
    ∙ ap (λ at. in_modes table.class row.modes at && option_map_or (cell_true spec table.heading s (at_of (taken_in_new table.heading b) s t)) (slice_get row.cells column) false)
    (class_looked s t table.heading b)

-- ---- values

-- the terms and the constant of a value together
value_there : (spec : Data) (s t : Codes) (r : Reading) (o : Option Expr)
    → total (term_value (valuation_of s t)) (option_map_or (side_terms r) o []) +ℤ option_map_or (side_constant spec) o (pos 0) ≡ option_map_or (side_value spec (at_of (plain_in_new r) s t) (at_of (primed_in_new r) s t)) o (pos 0)
value_there spec s t r None = refl
value_there spec s t r (Some e) = side_sum spec s t r e

pub value_sum : (spec : Data) (table : Table) (b : Bool) (row : Row) (column : ℕ) (s t : Codes) (h : Heading)
    → total (term_value (valuation_of s t)) (value_terms table column b h) +ℤ value_constant spec table row column h ≡ cell_value spec table row column h s (at_of (taken_in_new h b) s t)
value_sum spec table b row column s t Condition = value_there spec s t (In b) (slice_get table.values column)
value_sum spec table b row column s t Event = value_there spec s t Across (slice_get table.values column)
value_sum spec table b row column s t Modes = omega (arith, ints)

-- the variable has the value of a cell
holds_at-takes_formula : (spec : Data) (table : Table) (b : Bool) (row : Row) (column : ℕ) (s t : Codes)
    → holds_at (valuation_of s t) (takes_formula spec table b row column) ≡ takes_value spec table s (at_of (taken_in_new table.heading b) s t) row column
holds_at-takes_formula spec table b row column s t =
    let val = valuation_of s t in
    let n = taken_in_new table.heading b in
    let x = code_of (at_of n s t) table.variable in
    let v = cell_value spec table row column table.heading s (at_of n s t) in
    let value = value_terms table column b table.heading in
    let rest = map negated value in
    let k = neg_ℤ (value_constant spec table row column table.heading) in
    let sum = terms_value val (record { factor = pos 1; level = level_of n table.variable } ∷ rest) in
    let e = level_read s t n table.variable in
    let z : sum +ℤ k ≡ x -ℤ v = omega (
      arith,
      ints,
      e,
      fold_total (term_value val) (record { factor = pos 1; level = level_of n table.variable } ∷ rest),
      total-negated val value,
      value_sum spec table b row column s t table.heading,
    ) in
    holds_at-Atom _ _ ∙ meets_difference x v (sum +ℤ k) z

holds_at-taken_formula : (spec : Data) (table : Table) (b : Bool) (row : Row) (column : ℕ) (s t : Codes)
    → holds_at (valuation_of s t) (taken_formula spec table b row column)
    ≡ row_cell_true spec table s (at_of (taken_in_new table.heading b) s t) column row && takes_value spec table s (at_of (taken_in_new table.heading b) s t) row column
holds_at-taken_formula spec table b row column s t =
    holds_at-both _ (hold_formula spec table b row column) (takes_formula spec table b row column) _ _
    (holds_at-hold_formula spec table b row column s t) (holds_at-takes_formula spec table b row column s t)

-- ---- tables

-- formulas of all cells, joined by or
pub holds_at-cell_formulas : (val : Valuation) (f : Row → ℕ → Formula) (p : Row → ℕ → Bool) (table : Table) → ((row : Row) (column : ℕ) → holds_at val (f row column) ≡ p row column)
    → holds_at val (any_of (cell_formulas f table)) ≡ some_cell p table
holds_at-cell_formulas val f p table same =
    holds_at-any_of val (cell_formulas f table)
    ∙ list_any-flat_map (holds_at val) (row_formulas f) table.rows
    ∙ list_any-same (λ row. list_any (holds_at val) (row_formulas f row)) (λ row. list_any (p row) (range_with_len 0 (length row.cells))) table.rows
    (λ row.
    list_any-map (holds_at val) (f row) (range_with_len 0 (length row.cells))
    ∙ list_any-same (λ column. holds_at val (f row column)) (p row) (range_with_len 0 (length row.cells)) (same row))

-- some cell is taken
holds_at-some_taken : (spec : Data) (table : Table) (b : Bool) (s t : Codes)
    → holds_at (valuation_of s t) (some_taken_formula spec table b) ≡ some_taken spec table s (at_of (taken_in_new table.heading b) s t)
holds_at-some_taken spec table b s t =
    let n = at_of (taken_in_new table.heading b) s t in
    holds_at-cell_formulas (valuation_of s t) (taken_formula spec table b) (λ row column. row_cell_true spec table s n column row && takes_value spec table s n row column) table
    (λ row column. holds_at-taken_formula spec table b row column s t)

-- what is read in the new state
always_new : (h : Heading) → taken_in_new h true ≡ true
always_new Condition = refl
always_new Event = refl
always_new Modes = refl

some_taken_new : (spec : Data) (table : Table) (s t : Codes) → holds_at (valuation_of s t) (some_taken_formula spec table true) ≡ some_taken spec table s t
some_taken_new spec table s t = holds_at-some_taken spec table true s t ∙ ap (λ n. some_taken spec table s (at_of n s t)) (always_new table.heading)

some_holds_new : (spec : Data) (table : Table) (s t : Codes) → holds_at (valuation_of s t) (some_holds_formula spec table) ≡ some_holds spec table s t
some_holds_new spec table s t =
    holds_at-cell_formulas (valuation_of s t) (hold_formula spec table true) (λ row column. row_cell_true spec table s t column row) table
    (λ row column. holds_at-hold_formula spec table true row column s t ∙ ap (λ n. row_cell_true spec table s (at_of n s t) column row) (always_new table.heading))

holds_at-kept_formula : (spec : Data) (table : Table) (s t : Codes) → holds_at (valuation_of s t) (kept_formula spec table) ≡ not (some_holds spec table s t) && keeps_value table s t
holds_at-kept_formula spec table s t =
    holds_at-both _ (Not (some_holds_formula spec table)) (same_code table.variable) _ _
    (holds_at-negation _ _ _ (some_holds_new spec table s t)) (holds_at-same_code s t table.variable)

-- ---- a condition table looks at one state alone

cell_one_state : (spec : Data) (s t : Codes) (c : Cell) → cell_true spec Condition s t c ≡ cell_true spec Condition t t c
cell_one_state spec s t (cell.Cond c) = refl
cell_one_state spec s t (cell.Event e) = refl

found_one_state : (spec : Data) (s t : Codes) (o : Option Cell) → option_map_or (cell_true spec Condition s t) o false ≡ option_map_or (cell_true spec Condition t t) o false
found_one_state spec s t None = refl
found_one_state spec s t (Some c) = cell_one_state spec s t c

taken_one_state : (spec : Data) (table : Table) (s t : Codes) (row : Row) (column : ℕ) (h : Heading) → IsTrue (is_condition h)
    → (in_modes table.class row.modes (looked_at h s t) && option_map_or (cell_true spec h s t) (slice_get row.cells column) false) && int_eq (code_of t table.variable) (cell_value spec table row column h s t)
    ≡ (in_modes table.class row.modes (looked_at h t t) && option_map_or (cell_true spec h t t) (slice_get row.cells column) false) && int_eq (code_of t table.variable) (cell_value spec table row column h t t)
taken_one_state spec table s t row column Condition k =
    ap (λ b. (in_modes table.class row.modes t && b) && int_eq (code_of t table.variable) (cell_value spec table row column Condition t t)) (found_one_state spec s t (slice_get row.cells column))
taken_one_state spec table s t row column Event k = cc
taken_one_state spec table s t row column Modes k = cc

one_state : (spec : Data) (table : Table) (s t : Codes) → IsTrue (is_condition table.heading) → some_taken spec table s t ≡ some_taken spec table t t
one_state spec table s t k =
    let before = λ (row : Row) (column : ℕ). row_cell_true spec table s t column row && takes_value spec table s t row column in
    let after = λ (row : Row) (column : ℕ). row_cell_true spec table t t column row && takes_value spec table t t row column in
    list_any-same (λ row. list_any (before row) (range_with_len 0 (length row.cells))) (λ row. list_any (after row) (range_with_len 0 (length row.cells))) table.rows
    (λ row. list_any-same (before row) (after row) (range_with_len 0 (length row.cells)) (λ column. taken_one_state spec table s t row column table.heading k))

condition_taken : (h : Heading) (b : Bool) → IsTrue (is_condition h) → taken_in_new h b ≡ b
condition_taken Condition b k = refl
condition_taken Event b k = cc
condition_taken Modes b k = cc

-- ---- variables

own_found : (spec : Data) (b : Bool) (s t : Codes) (o : Option Table) → IsTrue (option_map_or (λ t. is_condition t.heading) o false)
    → holds_at (valuation_of s t) (option_map_or (λ t. some_taken_formula spec t b) o False) ≡ option_map_or (λ d. some_taken spec d (at_of b s t) (at_of b s t)) o false
own_found spec b s t None k = holds_at-False _
own_found spec b s t (Some table) k =
    holds_at-some_taken spec table b s t
    ∙ ap (λ n. some_taken spec table s (at_of n s t)) (condition_taken table.heading b k)
    ∙ one_state spec table s (at_of b s t) k

-- the variable of a condition table
holds_at-own_formula : (spec : Data) (v : ℕ) (b : Bool) (s t : Codes) → IsTrue (has_condition_table spec v) → holds_at (valuation_of s t) (own_formula spec v b) ≡ meets_own spec v (at_of b s t)
holds_at-own_formula spec v b s t k = own_found spec b s t (table_of spec v) k

holds_at-table_formula : (spec : Data) (table : Table) (s t : Codes) (h : Heading) → table.heading ≡ h → holds_at (valuation_of s t) (table_formula spec table h) ≡ table_relates spec table s t h
holds_at-table_formula spec table s t Condition e = some_taken_new spec table s t ∙ one_state spec table s t (ap is_condition e)
holds_at-table_formula spec table s t Event e =
    holds_at-either _ (some_taken_formula spec table true) (kept_formula spec table) _ _ (some_taken_new spec table s t) (holds_at-kept_formula spec table s t)
holds_at-table_formula spec table s t Modes e =
    holds_at-either _ (some_taken_formula spec table true) (kept_formula spec table) _ _ (some_taken_new spec table s t) (holds_at-kept_formula spec table s t)

relation_found : (spec : Data) (s t : Codes) (o : Option Table)
    → holds_at (valuation_of s t) (option_map_or (λ t. table_formula spec t t.heading) o False) ≡ option_map_or (λ d. table_relates spec d s t d.heading) o false
relation_found spec s t None = holds_at-False _
relation_found spec s t (Some table) = holds_at-table_formula spec table s t table.heading refl

-- the old and the new value of a variable
holds_at-relation_formula : (spec : Data) (v : ℕ) (s t : Codes) → holds_at (valuation_of s t) (relation_formula spec v) ≡ meets_relation spec v s t
holds_at-relation_formula spec v s t = relation_found spec s t (table_of spec v)

-- ---- the laws of the calls

pub cell_truth_ok : (spec : Data) (table : Table) (b : Bool) (row : Row) (column : ℕ) (r : Result Formula NoMemory) → IfOk r (λ f. f ≡ hold_formula spec table b row column) → IfOk r (λ f. HasTruthOfCell spec table b row column f)
cell_truth_ok spec table b row column (Ok f) k = λ s t. rw k (holds_at-hold_formula spec table b row column s t)
cell_truth_ok spec table b row column (Err x) k = k

pub own_truth_ok : (spec : Data) (v : ℕ) (b : Bool) (r : Result Formula NoMemory) → IsTrue (has_condition_table spec v) → IfOk r (λ f. f ≡ own_formula spec v b) → IfOk r (λ f. HasTruthOfOwn spec v b f)
own_truth_ok spec v b (Ok f) h k = λ s t. rw k (holds_at-own_formula spec v b s t h)
own_truth_ok spec v b (Err x) h k = k

pub relation_truth_ok : (spec : Data) (v : ℕ) (r : Result Formula NoMemory) → IfOk r (λ f. f ≡ relation_formula spec v) → IfOk r (λ f. HasTruthOfRelation spec v f)
relation_truth_ok spec v (Ok f) k = λ s t. rw k (holds_at-relation_formula spec v s t)
relation_truth_ok spec v (Err x) k = k
