use Rattle.std.proofs.Common.{◌≤◌, ◌-◌, length}
use Rattle.scr_spec.specs.Shown.{data_of}
use Rattle.run_reach.specs.Growth.{Grown}
use Rattle.run_reach.proofs.search.seek_from.Given as goal

abbrev pub invariant-loop-number : goal.invariant-loop-number
invariant-loop-number g l = record {
  grown : Grown (data_of l.checked.spec) ((g.T.Target.sought l.target (data_of l.checked.spec)).at_step) l.number l.tree;
  few : length l.tree ≤ l.most;
}

abbrev pub decreases-loop-number : goal.decreases-loop-number
decreases-loop-number g l = l.most - l.number
