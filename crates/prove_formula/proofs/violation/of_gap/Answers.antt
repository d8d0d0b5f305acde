use Rattle.scr_spec.specs.Shown.{data_of}
use Rattle.prove_formula.proofs.ViolationMeasure.{gap_over_ok}
use Rattle.prove_formula.proofs.violation.of_gap.Goals as goal

pub returns-clause-narrow : goal.returns-clause-narrow
returns-clause-narrow c =
    gap_over_ok (data_of c.args.spec.now) c.args.table.now c.args.row.now _ c.args.spec.now.sound c.requires.over c.requires.row_over c.gap_at.ensures
