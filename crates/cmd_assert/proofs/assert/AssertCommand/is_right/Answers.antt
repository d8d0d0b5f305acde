use Rattle.cmd_assert.proofs.Offering.{right}
use Rattle.cmd_assert.proofs.assert.AssertCommand.is_right.Goals as goal

pub returns : goal.returns
returns c = right
