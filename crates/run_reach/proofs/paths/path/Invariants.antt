use Rattle.std.proofs.Common.{◌≡◌, ◌++◌, reverse}
use Rattle.run_reach.specs.Trees.{path_from, path_of}
use Rattle.run_reach.proofs.paths.path.Given as goal

abbrev pub invariant-loop-left : goal.invariant-loop-left
invariant-loop-left l = path_of l.tree l.number ≡ path_from l.left l.tree l.at ++ reverse l.inputs.items

abbrev pub decreases-loop-left : goal.decreases-loop-left
decreases-loop-left l = l.left
