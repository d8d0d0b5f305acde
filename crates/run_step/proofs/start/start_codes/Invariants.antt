use Rattle.std.proofs.Common.{◌≡◌, map, take}
use Rattle.run_step.specs.Settled.{start_code}
use Rattle.run_step.proofs.start.start_codes.Given as goal

abbrev pub invariant-loop-variable : goal.invariant-loop-variable
invariant-loop-variable l = l.codes ≡ map (start_code l.spec.types) (take l.variable-index l.variable-items)
