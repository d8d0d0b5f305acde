use Rattle.std.proofs.Common.{◌≡◌, ◌++◌}
use Rattle.run_reach.specs.Inputs as spec
use Rattle.run_reach.proofs.inputs.push_from.Given as goal

abbrev pub invariant-loop-k : goal.invariant-loop-k
invariant-loop-k l = l.inputs ≡ l.fn.inputs ++ spec.inputs_from l.variable l.present l.least l.k
