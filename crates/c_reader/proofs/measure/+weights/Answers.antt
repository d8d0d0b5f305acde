use Rattle.c_reader.specs.Kept.{scope_of}
use Rattle.c_reader.proofs.MeasureLaws.{switch_weight}
use Rattle.c_reader.proofs.measure.+weights.Goals as goal

pub stmt_weight-returns-in-Switch : goal.stmt_weight-returns-in-Switch
stmt_weight-returns-in-Switch t c =
    switch_weight (scope_of c.args.declared.now) c.plus-in-Switch.ensures c.clauses_weight.ensures c.as_slice-in-Switch.ensures c.in-Switch.is
