use Rattle.std.proofs.Common.{◌≡◌, take, map, false}
use Rattle.scr_spec.specs.declared.table.Heading.TheVariants.{Condition}
use Rattle.scr_spec.specs.Shown.{data_of}
use Rattle.prove_formula.specs.Tables.{cell_formula}
use Rattle.prove_formula.proofs.violation.some_condition_at.Given as goal

abbrev pub invariant-loop-cell : goal.invariant-loop-cell
invariant-loop-cell l = l.members ≡ map (cell_formula (data_of l.spec) Condition false) (take l.cell-index l.cells)
