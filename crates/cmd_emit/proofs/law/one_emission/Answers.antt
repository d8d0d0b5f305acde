use Rattle.cmd_emit.proofs.Emitting.{one_emission}
use Rattle.cmd_emit.proofs.law.one_emission.Goals as goal

pub returns : goal.returns
returns c = one_emission
