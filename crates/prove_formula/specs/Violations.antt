-- The formulas of what a table must not meet.
use Rattle.std.specs.Prelude.{◌≡◌, ℕ, ℤ, ◌-ℤ◌, Bool, false, not, ◌&&◌, [], ◌∷◌, map}
use Rattle.std.specs.List.{list_any}
use Rattle.scr_spec.specs.Data.{Data}
use Rattle.dd_formula.specs.declared.domain.Domain.{Domain}
use Rattle.scr_spec.specs.declared.table.Row.{Row}
use Rattle.scr_spec.specs.declared.table.Heading.TheVariants.{Condition}
use Rattle.scr_spec.specs.declared.table.Table.{Table}
use Rattle.scr_spec.specs.Meaning.{Codes}
use Rattle.scr_spec.specs.Cells.{in_modes, cell_true}
use Rattle.dd_formula.specs.Domains.{is_within}
use Rattle.scr_spec.specs.Relations.{cell_value}
use Rattle.dd_formula.specs.declared.formula.Op.TheVariants.{Le}
use Rattle.dd_formula.specs.declared.formula.Formula.{Formula}
use Rattle.dd_formula.specs.declared.formula.Formula.TheVariants.{Atom, Not, And}
use Rattle.dd_formula.specs.Truth.{holds_at}
use Rattle.prove_formula.specs.Levels.{valuation_of, at_of}
use Rattle.prove_formula.specs.Sides.{negated}
use Rattle.dd_formula.specs.Joined.{any_of}
use Rattle.prove_formula.specs.Tables.{taken_in_new, under_modes, cell_formula, value_terms, value_constant}

-- ---- a row of a condition table without a condition that is true

-- in the old state the class has one of the row's modes, and none of its conditions is true
abbrev pub gap_formula : Data → Table → Row → Formula
gap_formula spec table row = under_modes false table.class row.modes (Not (any_of (map (cell_formula spec Condition false) row.cells)))

abbrev pub HasTruthOfGap : Data → Table → Row → Formula → Type 0
HasTruthOfGap spec table row f = (s t : Codes) → holds_at (valuation_of s t) f ≡ in_modes table.class row.modes s && not (list_any (cell_true spec Condition s s) row.cells)

-- ---- a value outside a domain

-- the value of the cell is at least this number
abbrev pub at_least_formula : Data → Table → Bool → Row → ℕ → ℤ → Formula
at_least_formula spec table new row column lo = Atom (record {
  terms = map negated (value_terms table column new table.heading);
  constant = lo -ℤ value_constant spec table row column table.heading;
  op = Le;
})

-- the value of the cell is at most this number
abbrev pub at_most_formula : Data → Table → Bool → Row → ℕ → ℤ → Formula
at_most_formula spec table new row column hi = Atom (record {
  terms = value_terms table column new table.heading;
  constant = value_constant spec table row column table.heading -ℤ hi;
  op = Le;
})

-- the value of the cell is outside the domain
abbrev pub outside_formula : Data → Table → Bool → Row → ℕ → Domain → Formula
outside_formula spec table new row column d = Not (And (at_least_formula spec table new row column d.lo ∷ at_most_formula spec table new row column d.hi ∷ []))

abbrev pub HasTruthOfOutside : Data → Table → Bool → Row → ℕ → Domain → Formula → Type 0
HasTruthOfOutside spec table new row column d f =
    (s t : Codes) → holds_at (valuation_of s t) f ≡ not (is_within d (cell_value spec table row column table.heading s (at_of (taken_in_new table.heading new) s t)))
