use Rattle.std.proofs.Common.{◌+◌}
use Rattle.cmd_large.proofs.Parts.{own_of}
use Rattle.cmd_large.proofs.summary.large.Goals as goal

pub returns-clause-status : goal.returns-clause-status
returns-clause-status c = own_of (c.args.n + 1) c.as_slice.result.now c.summarize.result c.summarize.ensures
