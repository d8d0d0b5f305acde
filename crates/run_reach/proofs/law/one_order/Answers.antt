use Rattle.run_reach.proofs.Order.{one_order}
use Rattle.run_reach.proofs.law.one_order.Goals as goal

pub returns : goal.returns
returns c = one_order
