use Rattle.std.proofs.Common.{arith}
use Rattle.dd_witness.proofs.Choices.{first_inside}
use Rattle.dd_witness.proofs.first_other.Goals as goal

pub overflow_cast-result : goal.overflow_cast-result
overflow_cast-result c = omega (arith, first_inside c.args.runs.now c.index-runs-0.result (omega (arith, c.requires.many)) c.index-runs-0.is, c.requires.few)

pub overflow_add-result : goal.overflow_add-result
overflow_add-result c = omega (arith, first_inside c.args.runs.now c.index-runs-0.result (omega (arith, c.requires.many)) c.index-runs-0.is, c.requires.few)
