use Rattle.scr_spec.specs.Shown.{data_of}
use Rattle.prove_formula.proofs.TableMeasure.{cell_over_ok}
use Rattle.prove_formula.proofs.cell.of_cell.Goals as goal

pub returns-clause-narrow : goal.returns-clause-narrow
returns-clause-narrow c =
    cell_over_ok (data_of c.args.spec.now) c.args.table.now c.args.new c.args.row.now c.args.column _ c.args.spec.now.sound c.requires.over c.requires.row_over c.hold_at.ensures
