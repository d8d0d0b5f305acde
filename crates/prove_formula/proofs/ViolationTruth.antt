-- The formulas of what a table must not meet are true exactly where it is met.
use Rattle.std.proofs.Common.{◌≡◌, ℕ, ℤ, pos, ◌+ℤ◌, ◌-ℤ◌, Bool, false, not, ◌&&◌, map, ◌∙◌, arith}
use Rattle.std.specs.Prelude.{int_le, IfOk, Result, Ok, Err}
use Rattle.std.specs.List.{list_any}
use Rattle.std.proofs.lemmas.Int.{ints}
use Rattle.base.specs.declared.memory.NoMemory.{NoMemory}
use Rattle.scr_spec.specs.Data.{Data}
use Rattle.dd_formula.specs.declared.domain.Domain.{Domain}
use Rattle.scr_spec.specs.declared.table.Row.{Row}
use Rattle.scr_spec.specs.declared.table.Heading.TheVariants.{Condition}
use Rattle.scr_spec.specs.declared.table.Table.{Table}
use Rattle.scr_spec.specs.Meaning.{Codes}
use Rattle.scr_spec.specs.Cells.{in_modes, cell_true}
use Rattle.scr_spec.specs.Relations.{cell_value}
use Rattle.dd_formula.specs.declared.formula.Formula.{Formula}
use Rattle.dd_formula.specs.declared.formula.Formula.TheVariants.{Not}
use Rattle.dd_formula.specs.Truth.{terms_value, holds_at}
use Rattle.prove_formula.specs.Levels.{at_of, valuation_of}
use Rattle.prove_formula.specs.Sides.{negated}
use Rattle.dd_formula.specs.Joined.{any_of}
use Rattle.prove_formula.specs.Tables.{taken_in_new, cell_formula, value_terms, value_constant}
use Rattle.prove_formula.specs.Violations.{gap_formula, at_least_formula, at_most_formula, outside_formula, HasTruthOfGap, HasTruthOfOutside}
use Rattle.dd_formula.proofs.Totals.{term_value, fold_total}
use Rattle.dd_formula.proofs.FormulaLaws.{holds_at-Atom}
use Rattle.prove_formula.proofs.SideTruth.{total-negated}
use Rattle.dd_formula.proofs.JoinTruth.{holds_at-any_map, holds_at-both, holds_at-negation}
use Rattle.prove_formula.proofs.TableTruth.{holds_at-cell_formula, holds_at-under_modes, value_sum}

-- ---- gaps

-- the class has a mode of the row, and none of its conditions is true
pub holds_at-gap_formula : (spec : Data) (table : Table) (row : Row) (s t : Codes)
    → holds_at (valuation_of s t) (gap_formula spec table row) ≡ in_modes table.class row.modes s && not (list_any (cell_true spec Condition s s) row.cells)
holds_at-gap_formula spec table row s t =
    holds_at-under_modes s t false table.class row.modes (Not (any_of (map (cell_formula spec Condition false) row.cells))) (not (list_any (cell_true spec Condition s s) row.cells))
    (holds_at-negation _ _ _
    (holds_at-any_map (valuation_of s t) (cell_formula spec Condition false) (cell_true spec Condition s s) row.cells (λ c. holds_at-cell_formula spec s t Condition false c)))

-- ---- values

-- a difference is at most 0 where the left is at most the right
pub meets_at_most : (x y z : ℤ) → z ≡ x -ℤ y → int_le z (pos 0) ≡ int_le x y
meets_at_most x y z e = grind (arith, ints)

holds_at-at_least : (spec : Data) (table : Table) (b : Bool) (row : Row) (column : ℕ) (lo : ℤ) (s t : Codes)
    → holds_at (valuation_of s t) (at_least_formula spec table b row column lo) ≡ int_le lo (cell_value spec table row column table.heading s (at_of (taken_in_new table.heading b) s t))
holds_at-at_least spec table b row column lo s t =
    let val = valuation_of s t in
    let v = cell_value spec table row column table.heading s (at_of (taken_in_new table.heading b) s t) in
    let value = value_terms table column b table.heading in
    let terms = map negated value in
    let k = lo -ℤ value_constant spec table row column table.heading in
    let z : terms_value val terms +ℤ k ≡ lo -ℤ v = omega (arith, ints, fold_total (term_value val) terms, total-negated val value, value_sum spec table b row column s t table.heading) in
    holds_at-Atom _ _ ∙ meets_at_most lo v (terms_value val terms +ℤ k) z

holds_at-at_most : (spec : Data) (table : Table) (b : Bool) (row : Row) (column : ℕ) (hi : ℤ) (s t : Codes)
    → holds_at (valuation_of s t) (at_most_formula spec table b row column hi) ≡ int_le (cell_value spec table row column table.heading s (at_of (taken_in_new table.heading b) s t)) hi
holds_at-at_most spec table b row column hi s t =
    let val = valuation_of s t in
    let v = cell_value spec table row column table.heading s (at_of (taken_in_new table.heading b) s t) in
    let terms = value_terms table column b table.heading in
    let k = value_constant spec table row column table.heading -ℤ hi in
    let z : terms_value val terms +ℤ k ≡ v -ℤ hi = omega (arith, ints, fold_total (term_value val) terms, value_sum spec table b row column s t table.heading) in
    holds_at-Atom _ _ ∙ meets_at_most v hi (terms_value val terms +ℤ k) z

-- the value is outside
pub holds_at-outside_formula : (spec : Data) (table : Table) (b : Bool) (row : Row) (column : ℕ) (d : Domain) (s t : Codes)
    → holds_at (valuation_of s t) (outside_formula spec table b row column d)
    ≡ not (int_le d.lo (cell_value spec table row column table.heading s (at_of (taken_in_new table.heading b) s t)) && int_le (cell_value spec table row column table.heading s (at_of (taken_in_new table.heading b) s t)) d.hi)
holds_at-outside_formula spec table b row column d s t =
    holds_at-negation _ _ _
    (holds_at-both _ (at_least_formula spec table b row column d.lo) (at_most_formula spec table b row column d.hi) _ _
    (holds_at-at_least spec table b row column d.lo s t) (holds_at-at_most spec table b row column d.hi s t))

-- ---- the laws of the calls

pub gap_truth_ok : (spec : Data) (table : Table) (row : Row) (r : Result Formula NoMemory) → IfOk r (λ f. f ≡ gap_formula spec table row) → IfOk r (λ f. HasTruthOfGap spec table row f)
gap_truth_ok spec table row (Ok f) k = λ s t. rw k (holds_at-gap_formula spec table row s t)
gap_truth_ok spec table row (Err x) k = k

pub outside_truth_ok : (spec : Data) (table : Table) (b : Bool) (row : Row) (column : ℕ) (d : Domain) (r : Result Formula NoMemory) → IfOk r (λ f. f ≡ outside_formula spec table b row column d)
    → IfOk r (λ f. HasTruthOfOutside spec table b row column d f)
outside_truth_ok spec table b row column d (Ok f) k = λ s t. rw k (holds_at-outside_formula spec table b row column d s t)
outside_truth_ok spec table b row column d (Err x) k = k
