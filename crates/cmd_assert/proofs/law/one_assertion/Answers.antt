use Rattle.cmd_assert.proofs.Files.{one_assertion}
use Rattle.cmd_assert.proofs.law.one_assertion.Goals as goal

pub returns : goal.returns
returns c = one_assertion
