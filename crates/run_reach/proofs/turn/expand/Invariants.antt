use Rattle.std.proofs.Common.{◌≡◌, ◌≤◌, take, length}
use Rattle.scr_spec.specs.Shown.{data_of}
use Rattle.run_reach.specs.Trees.{codes_at}
use Rattle.run_reach.specs.Growth.{Tries}
use Rattle.run_reach.proofs.turn.expand.Given as goal

abbrev pub invariant-loop-input : goal.invariant-loop-input
invariant-loop-input g l = record {
  tries : Tries (data_of l.checked.spec) ((g.T.Target.sought l.target (data_of l.checked.spec)).at_step) l.number (codes_at l.fn.tree l.number) (take l.input-index l.inputs) l.fn.tree l.tree;
  few : length l.tree ≤ l.most;
  room : length l.new.codes ≡ length l.checked.spec.variables;
}
