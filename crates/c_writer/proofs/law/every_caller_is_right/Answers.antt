use Rattle.c_writer.proofs.Callers.{callers_right}
use Rattle.c_writer.proofs.law.every_caller_is_right.Goals as goal

pub returns : goal.returns
returns c = callers_right
