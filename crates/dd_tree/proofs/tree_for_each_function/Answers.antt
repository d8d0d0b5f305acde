use Rattle.dd_tree.proofs.Function.{tree_for_each}
use Rattle.dd_tree.proofs.tree_for_each_function.Goals as goal

pub returns : goal.returns
returns c = tree_for_each
