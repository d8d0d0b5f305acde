use Rattle.dd_tree.proofs.Canon.{one_tree}
use Rattle.dd_tree.proofs.one_tree_per_function.Goals as goal

pub returns : goal.returns
returns c = one_tree
