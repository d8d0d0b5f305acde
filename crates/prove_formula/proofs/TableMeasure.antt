-- Each atom of the formulas of a table has levels of the specification, and a small measure.
use Rattle.std.proofs.Common.{zero, suc, ◌≡◌, ℕ, ◌+◌, ◌*◌, ◌≤◌, ℤ, pos, neg_ℤ, Bool, true, ◌&&◌, List, [], ◌∷◌, map, length, Option, Some, None, refl, ap, ◌∙◌, arith, IsTrue}
use Rattle.std.specs.Prelude.{unsigned_abs, sum_by, nat_lt, slice_get, slice_index_or, IfOk, Result, Ok, Err}
use Rattle.std.specs.Option.{option_map_or}
use Rattle.std.specs.List.{list_all, flat_map, range_with_len}
use Rattle.std.proofs.lemmas.Bool.{and_parts, and_from, ltb-true, leb-true, le-leb}
use Rattle.std.proofs.lemmas.List.Folds.{list_all-append}
use Rattle.std.proofs.lemmas.List.Sums.{sum_by-cons}
use Rattle.std.proofs.lemmas.Option.{get_or_from_slice_get}
use Rattle.base.specs.declared.memory.NoMemory.{NoMemory}
use Rattle.scr_spec.specs.Data.{Data}
use Rattle.scr_spec.specs.Sound.{IsSound}
use Rattle.scr_spec.specs.declared.cond.Expr.{Expr}
use Rattle.scr_spec.specs.declared.table.Cell.{Cell}
use Rattle.scr_spec.specs.declared.table.Cell.TheVariants as cell
use Rattle.scr_spec.specs.declared.table.Row.{Row}
use Rattle.scr_spec.specs.declared.table.Heading.{Heading}
use Rattle.scr_spec.specs.declared.table.Heading.TheVariants.{Condition, Event, Modes}
use Rattle.scr_spec.specs.declared.table.Table.{Table}
use Rattle.scr_spec.specs.Types.{is_narrow}
use Rattle.scr_spec.specs.Over.{variable_bound, is_side_over}
use Rattle.scr_spec.specs.Cells.{is_cell_over, is_class_over, is_row_over, is_small, is_table_over}
use Rattle.scr_spec.specs.Relations.{table_of}
use Rattle.scr_spec.proofs.Lookup.{all_get}
use Rattle.scr_spec.proofs.Narrow.{variable_narrow}
use Rattle.scr_spec.proofs.Found.{table_over}
use Rattle.dd_formula.specs.declared.formula.Op.TheVariants.{Eq}
use Rattle.dd_formula.specs.declared.formula.Term.{Term}
use Rattle.dd_formula.specs.declared.formula.Formula.{Formula}
use Rattle.dd_formula.specs.declared.formula.Formula.TheVariants as made
use Rattle.prove_formula.specs.Levels.{level_of}
use Rattle.prove_formula.specs.declared.side.Reading.{Reading}
use Rattle.prove_formula.specs.declared.side.Reading.TheVariants.{In, Across}
use Rattle.prove_formula.specs.Sides.{side_terms, side_constant, negated}
use Rattle.prove_formula.specs.Conditions.{has_code}
use Rattle.dd_formula.specs.Joined.{any_of}
use Rattle.prove_formula.specs.Measure.{term_measure, measure, is_own_level, is_atom_over, IsOver}
use Rattle.dd_formula.specs.Measure.{all_atoms}
use Rattle.prove_formula.specs.Tables.{class_in_new, taken_in_new, under_modes, cell_formula, hold_formula, value_terms, value_constant, takes_formula, taken_formula, row_formulas, cell_formulas, some_taken_formula, kept_formula, table_formula, own_formula, relation_formula}
use Rattle.dd_formula.proofs.FormulaLaws.{all_atoms-False}
use Rattle.prove_formula.proofs.SideMeasure.{level_of-half, own_level, neg_size, side_small, side_own, side_fits, negated_small, negated_own}
use Rattle.prove_formula.proofs.ConditionMeasure.{over_atom, over_not, over_any_of, over_has_code, over_condition_formula}
use Rattle.prove_formula.proofs.EventMeasure.{over_both, over_either, all_mapped, over_same_code, over_event_formula}

-- ---- the parts of a table

-- its class, its rows, its variable and its values
pub table_parts : (spec : Data) (table : Table) → IsTrue (is_table_over spec table)
    → IsTrue (is_class_over spec table.class) × IsTrue (list_all (is_row_over spec) table.rows) × IsTrue (nat_lt table.variable (length spec.variables)) × IsTrue (list_all (is_side_over spec) table.values)
table_parts spec table h =
    let class = is_class_over spec table.class in
    let rows = list_all (is_row_over spec) table.rows in
    let variable = nat_lt table.variable (length spec.variables) in
    let values = list_all (is_side_over spec) table.values in
    let four = and_parts (class && rows && variable && values) (is_small table) h in
    let three = and_parts (class && rows && variable) values (four.0) in
    let two = and_parts (class && rows) variable (three.0) in
    let one = and_parts class rows (two.0) in
    (one.0, one.1, two.1, three.1)

-- its cells, its modes and its targets
pub row_parts : (spec : Data) (row : Row) → IsTrue (is_row_over spec row) → IsTrue (list_all (is_cell_over spec) row.cells) × IsTrue (list_all is_narrow row.modes) × IsTrue (list_all is_narrow row.targets)
row_parts spec row h =
    let cells = list_all (is_cell_over spec) row.cells in
    let modes = list_all is_narrow row.modes in
    let two = and_parts (cells && modes) (list_all is_narrow row.targets) h in
    let one = and_parts cells modes (two.0) in
    (one.0, one.1, two.1)

-- ---- cells

pub over_under_modes : (spec : Data) → IsSound spec → (b : Bool) (class : Option ℕ) (modes : List ℤ) (f : Formula) → IsTrue (is_class_over spec class) → IsTrue (list_all is_narrow modes) → IsOver spec f
    → IsOver spec (under_modes b class modes f)
over_under_modes spec sound b None modes f c h k = k
over_under_modes spec sound b (Some v) modes f c h k =
    over_both spec _ _
    (over_any_of spec _
    (all_mapped is_narrow (all_atoms (is_atom_over spec)) (has_code b v) (λ z w. over_has_code spec b v z sound (ltb-true _ _ c) (leb-true _ _ w)) modes h))
    k

pub over_cell_formula : (spec : Data) → IsSound spec → (h : Heading) (b : Bool) (c : Cell) → IsTrue (is_cell_over spec c) → IsOver spec (cell_formula spec h b c)
over_cell_formula spec sound Condition b (cell.Cond c) k = over_condition_formula spec b sound c k
over_cell_formula spec sound Condition b (cell.Event e) k = all_atoms-False (is_atom_over spec)
over_cell_formula spec sound Event b (cell.Cond c) k = all_atoms-False (is_atom_over spec)
over_cell_formula spec sound Event b (cell.Event e) k = over_event_formula spec sound e k
over_cell_formula spec sound Modes b (cell.Cond c) k = all_atoms-False (is_atom_over spec)
over_cell_formula spec sound Modes b (cell.Event e) k = over_event_formula spec sound e k

over_found_cell : (spec : Data) → IsSound spec → (h : Heading) (b : Bool) (cells : List Cell) (column : ℕ) (o : Option Cell) → slice_get cells column ≡ o → IsTrue (list_all (is_cell_over spec) cells)
    → IsOver spec (option_map_or (cell_formula spec h b) o made.False)
over_found_cell spec sound h b cells column None e k = all_atoms-False (is_atom_over spec)
over_found_cell spec sound h b cells column (Some c) e k = over_cell_formula spec sound h b c (all_get (is_cell_over spec) cells column c k e)

-- a cell that holds
pub over_hold_formula : (spec : Data) → IsSound spec → (table : Table) (b : Bool) (row : Row) (column : ℕ) → IsTrue (is_table_over spec table) → IsTrue (is_row_over spec row) → IsOver spec (hold_formula spec table b row column)
over_hold_formula spec sound table b row column h r =
    let parts = row_parts spec row r in
    over_under_modes spec sound (class_in_new table.heading b) table.class row.modes _ ((table_parts spec table h).0) (parts.1)
    (over_found_cell spec sound table.heading b row.cells column (slice_get row.cells column) refl (parts.0))

-- ---- values

column_small : (spec : Data) (values : List Expr) (column : ℕ) (r : Reading) (o : Option Expr) → slice_get values column ≡ o → IsTrue (list_all (is_side_over spec) values)
    → sum_by (term_measure spec) (option_map_or (side_terms r) o []) + unsigned_abs (option_map_or (side_constant spec) o (pos 0)) ≤ 2000000000
column_small spec values column r None e k = omega arith
column_small spec values column r (Some x) e k =
    let s = side_small spec r x in
    let m = side_fits spec x (all_get (is_side_over spec) values column x k e) in
    omega (arith, s, m)

column_own : (spec : Data) (values : List Expr) (column : ℕ) (r : Reading) (o : Option Expr) → slice_get values column ≡ o → IsTrue (list_all (is_side_over spec) values)
    → IsTrue (list_all (is_own_level spec) (option_map_or (side_terms r) o []))
column_own spec values column r None e k = refl
column_own spec values column r (Some x) e k = side_own spec r x (all_get (is_side_over spec) values column x k e)

some_none : {X : Type 0} {x : X} → Some x ≡ None → ⊥
some_none e = cc

-- what is not there is read as the default
get_or_none : {X : Type 0} (xs : List X) (i : ℕ) (d : X) → slice_get xs i ≡ None → slice_index_or xs i d ≡ d
get_or_none [] i d e = refl
get_or_none (x ∷ xs) zero d e = absurd (some_none e)
get_or_none (x ∷ xs) (suc i) d e = get_or_none xs i d e

target_small : (targets : List ℤ) (column : ℕ) (o : Option ℤ) → slice_get targets column ≡ o → IsTrue (list_all is_narrow targets) → unsigned_abs (slice_index_or targets column (pos 0)) ≤ 1000000
target_small targets column None e h = rw (get_or_none targets column (pos 0) e) (omega arith)
target_small targets column (Some z) e h = rw (get_or_from_slice_get targets column z (pos 0) e) (leb-true _ _ (all_get is_narrow targets column z h e))

pub value_small : (spec : Data) (table : Table) (row : Row) (column : ℕ) (b : Bool) (h : Heading) → IsTrue (is_row_over spec row) → IsTrue (list_all (is_side_over spec) table.values)
    → sum_by (term_measure spec) (value_terms table column b h) + unsigned_abs (value_constant spec table row column h) ≤ 2000000000
value_small spec table row column b Condition r k = column_small spec table.values column (In b) (slice_get table.values column) refl k
value_small spec table row column b Event r k = column_small spec table.values column Across (slice_get table.values column) refl k
value_small spec table row column b Modes r k =
    let m = target_small row.targets column (slice_get row.targets column) refl ((row_parts spec row r).2) in
    omega (arith, m)

pub value_own : (spec : Data) (table : Table) (column : ℕ) (b : Bool) (h : Heading) → IsTrue (list_all (is_side_over spec) table.values) → IsTrue (list_all (is_own_level spec) (value_terms table column b h))
value_own spec table column b Condition k = column_own spec table.values column (In b) (slice_get table.values column) refl k
value_own spec table column b Event k = column_own spec table.values column Across (slice_get table.values column) refl k
value_own spec table column b Modes k = refl

-- the variable has the value of a cell
over_takes_formula : (spec : Data) → IsSound spec → (table : Table) (b : Bool) (row : Row) (column : ℕ) → IsTrue (is_table_over spec table) → IsTrue (is_row_over spec row)
    → IsOver spec (takes_formula spec table b row column)
over_takes_formula spec sound table b row column h r =
    let parts = table_parts spec table h in
    let n = taken_in_new table.heading b in
    let v = table.variable in
    let t : Term = record { factor = pos 1; level = level_of n v } in
    let value = value_terms table column b table.heading in
    let rest = map negated value in
    let k = value_constant spec table row column table.heading in
    let c = sum_by-cons (term_measure spec) t rest in
    let m : term_measure spec t ≡ 1 * variable_bound spec v = ap (λ w. 1 * variable_bound spec w) (level_of-half n v) in
    let g = value_small spec table row column b table.heading r (parts.3) in
    let small : measure spec (record { terms = t ∷ rest; constant = neg_ℤ k; op = Eq }) ≤ 5000000000 = omega (arith, c, m, g, negated_small spec value, neg_size k, variable_narrow spec sound v) in
    let own = and_from _ _ (own_level n v (length spec.variables) (ltb-true _ _ (parts.2))) (negated_own spec value ∙ value_own spec table column b table.heading (parts.3)) in
    over_atom spec _ (and_from _ _ own (le-leb _ _ small))

-- ---- tables

all_made : {X : Type 0} (q : Formula → Bool) (f : X → Formula) → ((x : X) → IsTrue (q (f x))) → (xs : List X) → IsTrue (list_all q (map f xs))
all_made q f each [] = refl
all_made q f each (x ∷ xs) = and_from _ _ (each x) (all_made q f each xs)

all_flat : {X : Type 0} (p : X → Bool) (q : Formula → Bool) (f : X → List Formula) → ((x : X) → IsTrue (p x) → IsTrue (list_all q (f x))) → (xs : List X) → IsTrue (list_all p xs)
    → IsTrue (list_all q (flat_map f xs))
all_flat p q f each [] h = refl
all_flat p q f each (x ∷ xs) h =
    let both = and_parts (p x) (list_all p xs) h in
    list_all-append q (f x) (flat_map f xs) ∙ and_from _ _ (each x (both.0)) (all_flat p q f each xs (both.1))

-- formulas of all cells, joined by or
over_cell_formulas : (spec : Data) (f : Row → ℕ → Formula) (table : Table) → ((row : Row) (column : ℕ) → IsTrue (is_row_over spec row) → IsOver spec (f row column)) → IsTrue (is_table_over spec table)
    → IsOver spec (any_of (cell_formulas f table))
over_cell_formulas spec f table each h =
    over_any_of spec _
    (all_flat (is_row_over spec) (all_atoms (is_atom_over spec)) (row_formulas f)
    (λ row k. all_made (all_atoms (is_atom_over spec)) (f row) (λ column. each row column k) (range_with_len 0 (length row.cells)))
    table.rows
    ((table_parts spec table h).1))

over_some_taken : (spec : Data) → IsSound spec → (table : Table) (b : Bool) → IsTrue (is_table_over spec table) → IsOver spec (some_taken_formula spec table b)
over_some_taken spec sound table b h =
    over_cell_formulas spec (taken_formula spec table b) table
    (λ row column k. over_both spec _ _ (over_hold_formula spec sound table b row column h k) (over_takes_formula spec sound table b row column h k))
    h

over_kept_formula : (spec : Data) → IsSound spec → (table : Table) → IsTrue (is_table_over spec table) → IsOver spec (kept_formula spec table)
over_kept_formula spec sound table h =
    over_both spec _ _
    (over_not spec _ (over_cell_formulas spec (hold_formula spec table true) table (λ row column k. over_hold_formula spec sound table true row column h k) h))
    (over_same_code spec table.variable sound (ltb-true _ _ ((table_parts spec table h).2)))

over_table_formula : (spec : Data) → IsSound spec → (table : Table) (h : Heading) → IsTrue (is_table_over spec table) → IsOver spec (table_formula spec table h)
over_table_formula spec sound table Condition k = over_some_taken spec sound table true k
over_table_formula spec sound table Event k = over_either spec _ _ (over_some_taken spec sound table true k) (over_kept_formula spec sound table k)
over_table_formula spec sound table Modes k = over_either spec _ _ (over_some_taken spec sound table true k) (over_kept_formula spec sound table k)

-- ---- variables

own_found : (spec : Data) → IsSound spec → (v : ℕ) (b : Bool) (o : Option Table) → table_of spec v ≡ o → IsOver spec (option_map_or (λ t. some_taken_formula spec t b) o made.False)
own_found spec sound v b None e = all_atoms-False (is_atom_over spec)
own_found spec sound v b (Some table) e = over_some_taken spec sound table b (table_over spec v table sound e)

relation_found : (spec : Data) → IsSound spec → (v : ℕ) (o : Option Table) → table_of spec v ≡ o → IsOver spec (option_map_or (λ t. table_formula spec t t.heading) o made.False)
relation_found spec sound v None e = all_atoms-False (is_atom_over spec)
relation_found spec sound v (Some table) e = over_table_formula spec sound table table.heading (table_over spec v table sound e)

-- ---- the laws of the calls

pub cell_over_ok : (spec : Data) (table : Table) (b : Bool) (row : Row) (column : ℕ) (r : Result Formula NoMemory) → IsSound spec → IsTrue (is_table_over spec table) → IsTrue (is_row_over spec row)
    → IfOk r (λ f. f ≡ hold_formula spec table b row column) → IfOk r (λ f. IsOver spec f)
cell_over_ok spec table b row column (Ok f) sound h r k = rw k (over_hold_formula spec sound table b row column h r)
cell_over_ok spec table b row column (Err x) sound h r k = k

pub own_over_ok : (spec : Data) (v : ℕ) (b : Bool) (r : Result Formula NoMemory) → IsSound spec → IfOk r (λ f. f ≡ own_formula spec v b) → IfOk r (λ f. IsOver spec f)
own_over_ok spec v b (Ok f) sound k = rw k (own_found spec sound v b (table_of spec v) refl)
own_over_ok spec v b (Err x) sound k = k

pub relation_over_ok : (spec : Data) (v : ℕ) (r : Result Formula NoMemory) → IsSound spec → IfOk r (λ f. f ≡ relation_formula spec v) → IfOk r (λ f. IsOver spec f)
relation_over_ok spec v (Ok f) sound k = rw k (relation_found spec sound v (table_of spec v) refl)
relation_over_ok spec v (Err x) sound k = k
