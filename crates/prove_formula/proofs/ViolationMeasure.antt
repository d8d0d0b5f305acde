-- Each atom of the formulas of what a table must not meet has levels of the specification, and a small measure.
use Rattle.std.proofs.Common.{◌≡◌, ℕ, ◌≤◌, ℤ, ◌-ℤ◌, Bool, false, map, ◌∙◌, arith, IsTrue}
use Rattle.std.specs.Prelude.{unsigned_abs, IfOk, Result, Ok, Err}
use Rattle.std.proofs.lemmas.Bool.{and_from, leb-true, le-leb}
use Rattle.base.specs.declared.memory.NoMemory.{NoMemory}
use Rattle.scr_spec.specs.Data.{Data}
use Rattle.scr_spec.specs.Sound.{IsSound}
use Rattle.dd_formula.specs.declared.domain.Domain.{Domain}
use Rattle.scr_spec.specs.declared.table.Row.{Row}
use Rattle.scr_spec.specs.declared.table.Heading.TheVariants.{Condition}
use Rattle.scr_spec.specs.declared.table.Table.{Table}
use Rattle.scr_spec.specs.Types.{is_narrow}
use Rattle.scr_spec.specs.Cells.{is_cell_over, is_row_over, is_table_over}
use Rattle.dd_formula.specs.declared.formula.Op.TheVariants.{Le}
use Rattle.dd_formula.specs.declared.formula.Formula.{Formula}
use Rattle.prove_formula.specs.Measure.{measure, is_atom_over, IsOver}
use Rattle.dd_formula.specs.Measure.{all_atoms}
use Rattle.prove_formula.specs.Tables.{cell_formula, value_terms, value_constant}
use Rattle.prove_formula.specs.Violations.{gap_formula, at_least_formula, at_most_formula, outside_formula}
use Rattle.prove_formula.specs.Sides.{negated}
use Rattle.prove_formula.proofs.SideMeasure.{negated_small, negated_own, less_size}
use Rattle.prove_formula.proofs.ConditionMeasure.{over_atom, over_not, over_any_of}
use Rattle.prove_formula.proofs.EventMeasure.{over_both, all_mapped}
use Rattle.prove_formula.proofs.TableMeasure.{table_parts, row_parts, over_under_modes, over_cell_formula, value_small, value_own}

-- a row without a condition that is true
pub over_gap_formula : (spec : Data) → IsSound spec → (table : Table) (row : Row) → IsTrue (is_table_over spec table) → IsTrue (is_row_over spec row) → IsOver spec (gap_formula spec table row)
over_gap_formula spec sound table row h r =
    let parts = row_parts spec row r in
    over_under_modes spec sound false table.class row.modes _ ((table_parts spec table h).0) (parts.1)
    (over_not spec _
    (over_any_of spec _
    (all_mapped (is_cell_over spec) (all_atoms (is_atom_over spec)) (cell_formula spec Condition false) (λ c k. over_cell_formula spec sound Condition false c k) row.cells (parts.0))))

over_at_least : (spec : Data) (table : Table) (b : Bool) (row : Row) (column : ℕ) (lo : ℤ) → IsTrue (is_table_over spec table) → IsTrue (is_row_over spec row) → IsTrue (is_narrow lo)
    → IsOver spec (at_least_formula spec table b row column lo)
over_at_least spec table b row column lo h r n =
    let values = (table_parts spec table h).3 in
    let value = value_terms table column b table.heading in
    let terms = map negated value in
    let k = value_constant spec table row column table.heading in
    let bound : unsigned_abs lo ≤ 1000000 = leb-true _ _ n in
    let small : measure spec (record { terms = terms; constant = lo -ℤ k; op = Le }) ≤ 5000000000 = omega (arith, value_small spec table row column b table.heading r values, negated_small spec value, less_size lo k, bound) in
    over_atom spec _ (and_from _ _ (negated_own spec value ∙ value_own spec table column b table.heading values) (le-leb _ _ small))

over_at_most : (spec : Data) (table : Table) (b : Bool) (row : Row) (column : ℕ) (hi : ℤ) → IsTrue (is_table_over spec table) → IsTrue (is_row_over spec row) → IsTrue (is_narrow hi)
    → IsOver spec (at_most_formula spec table b row column hi)
over_at_most spec table b row column hi h r n =
    let values = (table_parts spec table h).3 in
    let terms = value_terms table column b table.heading in
    let k = value_constant spec table row column table.heading in
    let bound : unsigned_abs hi ≤ 1000000 = leb-true _ _ n in
    let small : measure spec (record { terms = terms; constant = k -ℤ hi; op = Le }) ≤ 5000000000 = omega (arith, value_small spec table row column b table.heading r values, less_size k hi, bound) in
    over_atom spec _ (and_from _ _ (value_own spec table column b table.heading values) (le-leb _ _ small))

-- a value outside a domain
pub over_outside_formula : (spec : Data) (table : Table) (b : Bool) (row : Row) (column : ℕ) (d : Domain) → IsTrue (is_table_over spec table) → IsTrue (is_row_over spec row)
    → IsTrue (is_narrow d.lo) → IsTrue (is_narrow d.hi) → IsOver spec (outside_formula spec table b row column d)
over_outside_formula spec table b row column d h r lo hi =
    over_not spec _ (over_both spec _ _ (over_at_least spec table b row column d.lo h r lo) (over_at_most spec table b row column d.hi h r hi))

-- ---- the laws of the calls

pub gap_over_ok : (spec : Data) (table : Table) (row : Row) (r : Result Formula NoMemory) → IsSound spec → IsTrue (is_table_over spec table) → IsTrue (is_row_over spec row)
    → IfOk r (λ f. f ≡ gap_formula spec table row) → IfOk r (λ f. IsOver spec f)
gap_over_ok spec table row (Ok f) sound h r k = rw k (over_gap_formula spec sound table row h r)
gap_over_ok spec table row (Err x) sound h r k = k

pub outside_over_ok : (spec : Data) (table : Table) (b : Bool) (row : Row) (column : ℕ) (d : Domain) (r : Result Formula NoMemory) → IsTrue (is_table_over spec table) → IsTrue (is_row_over spec row)
    → IsTrue (is_narrow d.lo) → IsTrue (is_narrow d.hi) → IfOk r (λ f. f ≡ outside_formula spec table b row column d) → IfOk r (λ f. IsOver spec f)
outside_over_ok spec table b row column d (Ok f) h r lo hi k = rw k (over_outside_formula spec table b row column d h r lo hi)
outside_over_ok spec table b row column d (Err x) h r lo hi k = k
