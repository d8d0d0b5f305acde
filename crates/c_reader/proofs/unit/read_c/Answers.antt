use Rattle.c_reader.proofs.Depths.{calls_answered, depth_answered}
use Rattle.c_reader.proofs.unit.read_c.Goals as goal

pub returns-clause-calls : goal.returns-clause-calls
returns-clause-calls c = calls_answered c.args.text.now c.read_unit.result c.read_unit.ensures.read

pub returns-clause-depth : goal.returns-clause-depth
returns-clause-depth c = depth_answered c.args.text.now c.read_unit.result c.read_unit.ensures.read
