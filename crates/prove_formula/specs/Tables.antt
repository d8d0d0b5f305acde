-- The formulas of the cells and of the table of a variable.
use Rattle.std.specs.Prelude.{◌≡◌, ℕ, ℤ, pos, neg_ℤ, Bool, true, false, Option, Some, None, List, [], ◌∷◌, map, length, slice_get, slice_index_or, flat_map}
use Rattle.std.specs.Option.{option_map_or}
use Rattle.std.specs.List.{range_with_len}
use Rattle.scr_spec.specs.Data.{Data}
use Rattle.scr_spec.specs.declared.cond.Expr.{Expr}
use Rattle.scr_spec.specs.declared.table.Cell.{Cell}
use Rattle.scr_spec.specs.declared.table.Cell.TheVariants as cell
use Rattle.scr_spec.specs.declared.table.Row.{Row}
use Rattle.scr_spec.specs.declared.table.Heading.{Heading}
use Rattle.scr_spec.specs.declared.table.Heading.TheVariants.{Condition, Event, Modes}
use Rattle.scr_spec.specs.declared.table.Table.{Table}
use Rattle.scr_spec.specs.Meaning.{Codes}
use Rattle.scr_spec.specs.Cells.{row_cell_true}
use Rattle.scr_spec.specs.Relations.{table_of, meets_own, meets_relation}
use Rattle.dd_formula.specs.declared.formula.Op.TheVariants.{Eq}
use Rattle.dd_formula.specs.declared.formula.Term.{Term}
use Rattle.dd_formula.specs.declared.formula.Formula.{Formula}
use Rattle.dd_formula.specs.declared.formula.Formula.TheVariants.{False, Atom, Not, And, Or}
use Rattle.dd_formula.specs.Truth.{holds_at}
use Rattle.prove_formula.specs.declared.side.Reading.{Reading}
use Rattle.prove_formula.specs.declared.side.Reading.TheVariants.{In, Across}
use Rattle.prove_formula.specs.Levels.{level_of, valuation_of, at_of}
use Rattle.prove_formula.specs.Sides.{side_terms, side_constant, negated}
use Rattle.prove_formula.specs.Conditions.{has_code, condition_formula}
use Rattle.prove_formula.specs.Events.{same_code, event_formula}
use Rattle.dd_formula.specs.Joined.{any_of}

-- ---- which state is read: a condition table is read in one state, the old or the new

-- the class of any other table is read in the old state
abbrev pub class_in_new : Heading → Bool → Bool
class_in_new Condition new = new
class_in_new Event new = false
class_in_new Modes new = false

-- the variable of any other table takes its value in the new state
abbrev pub taken_in_new : Heading → Bool → Bool
taken_in_new Condition new = new
taken_in_new Event new = true
taken_in_new Modes new = true

-- ---- cells

-- the class has one of the modes; without a class there is no test of modes
abbrev pub under_modes : Bool → Option ℕ → List ℤ → Formula → Formula
under_modes new None modes f = f
under_modes new (Some v) modes f = And (any_of (map (has_code new v) modes) ∷ f ∷ [])

-- the condition or the event of a cell
abbrev pub cell_formula : Data → Heading → Bool → Cell → Formula
cell_formula spec Condition new (cell.Cond c) = condition_formula spec new c
cell_formula spec Condition new (cell.Event e) = False
cell_formula spec Event new (cell.Cond c) = False
cell_formula spec Event new (cell.Event e) = event_formula spec e
cell_formula spec Modes new (cell.Cond c) = False
cell_formula spec Modes new (cell.Event e) = event_formula spec e

-- the cell holds
abbrev pub hold_formula : Data → Table → Bool → Row → ℕ → Formula
hold_formula spec table new row column =
    under_modes (class_in_new table.heading new) table.class row.modes (option_map_or (cell_formula spec table.heading new) (slice_get row.cells column) False)

-- ---- values

-- where the names of a cell's value are read
abbrev pub reading_of : Heading → Bool → Reading
reading_of Condition new = In new
reading_of Event new = Across
reading_of Modes new = Across

-- the side that gives the value; a mode table has targets in place of sides
abbrev pub value_side : Table → ℕ → Heading → Option Expr
value_side table column Condition = slice_get table.values column
value_side table column Event = slice_get table.values column
value_side table column Modes = None

-- its terms
abbrev pub value_terms : Table → ℕ → Bool → Heading → List Term
value_terms table column new h = option_map_or (side_terms (reading_of h new)) (value_side table column h) []

-- its constant; the value of a cell of a mode table is its target
abbrev pub value_constant : Data → Table → Row → ℕ → Heading → ℤ
value_constant spec table row column Condition = option_map_or (side_constant spec) (slice_get table.values column) (pos 0)
value_constant spec table row column Event = option_map_or (side_constant spec) (slice_get table.values column) (pos 0)
value_constant spec table row column Modes = slice_index_or row.targets column (pos 0)

-- the table's variable has the value of the cell
abbrev pub takes_formula : Data → Table → Bool → Row → ℕ → Formula
takes_formula spec table new row column = Atom (record {
  terms = record { factor = pos 1; level = level_of (taken_in_new table.heading new) table.variable } ∷ map negated (value_terms table column new table.heading);
  constant = neg_ℤ (value_constant spec table row column table.heading);
  op = Eq;
})

-- the cell holds, and the variable has its value
abbrev pub taken_formula : Data → Table → Bool → Row → ℕ → Formula
taken_formula spec table new row column = And (hold_formula spec table new row column ∷ takes_formula spec table new row column ∷ [])

-- ---- tables

-- the formulas of the cells of a row, in order
abbrev pub row_formulas : (Row → ℕ → Formula) → Row → List Formula
row_formulas f row = map (f row) (range_with_len 0 (length row.cells))

-- those of all cells, by rows and then columns
abbrev pub cell_formulas : (Row → ℕ → Formula) → Table → List Formula
cell_formulas f table = flat_map (row_formulas f) table.rows

-- some cell holds
abbrev pub some_holds_formula : Data → Table → Formula
some_holds_formula spec table = any_of (cell_formulas (hold_formula spec table true) table)

-- some cell holds whose value the variable has
abbrev pub some_taken_formula : Data → Table → Bool → Formula
some_taken_formula spec table new = any_of (cell_formulas (taken_formula spec table new) table)

-- no cell holds, and the variable keeps its value
abbrev pub kept_formula : Data → Table → Formula
kept_formula spec table = And (Not (some_holds_formula spec table) ∷ same_code table.variable ∷ [])

-- what the table allows
abbrev pub table_formula : Data → Table → Heading → Formula
table_formula spec table Condition = some_taken_formula spec table true
table_formula spec table Event = Or (some_taken_formula spec table true ∷ kept_formula spec table ∷ [])
table_formula spec table Modes = Or (some_taken_formula spec table true ∷ kept_formula spec table ∷ [])

-- ---- variables

-- the variable of a condition table has the value of some cell that holds
abbrev pub own_formula : Data → ℕ → Bool → Formula
own_formula spec v new = option_map_or (λ t. some_taken_formula spec t new) (table_of spec v) False

-- the old and the new value of the variable are related by its table
abbrev pub relation_formula : Data → ℕ → Formula
relation_formula spec v = option_map_or (λ t. table_formula spec t t.heading) (table_of spec v) False

-- ---- truth

-- at the valuation of two states the formula is true exactly where the cell holds
abbrev pub HasTruthOfCell : Data → Table → Bool → Row → ℕ → Formula → Type 0
HasTruthOfCell spec table new row column f = (s t : Codes) → holds_at (valuation_of s t) f ≡ row_cell_true spec table s (at_of (taken_in_new table.heading new) s t) column row

-- at the valuation of two states the formula is true exactly where the one that is read meets the table of the variable
abbrev pub HasTruthOfOwn : Data → ℕ → Bool → Formula → Type 0
HasTruthOfOwn spec v new f = (s t : Codes) → holds_at (valuation_of s t) f ≡ meets_own spec v (at_of new s t)

-- true exactly where the two states meet the relation of the variable
abbrev pub HasTruthOfRelation : Data → ℕ → Formula → Type 0
HasTruthOfRelation spec v f = (s t : Codes) → holds_at (valuation_of s t) f ≡ meets_relation spec v s t
