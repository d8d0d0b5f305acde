use Rattle.scr_spec.specs.Shown.{data_of}
use Rattle.prove_formula.proofs.ViolationMeasure.{outside_over_ok}
use Rattle.prove_formula.proofs.violation.of_outside.Goals as goal

pub returns-clause-narrow : goal.returns-clause-narrow
returns-clause-narrow c =
    outside_over_ok (data_of c.args.spec.now) c.args.table.now c.args.new c.args.row.now c.args.column c.args.domain _ c.requires.over c.requires.row_over c.requires.lo c.requires.hi c.outside_at.ensures
