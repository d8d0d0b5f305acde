use Rattle.std.proofs.Common.{◌≡◌, ◌++◌, length, take}
use Rattle.std.specs.List.{flat_map, zip}
use Rattle.cmd_report.specs.Runs.{state_value_text}
use Rattle.cmd_report.proofs.runs.push_values.Given as goal

abbrev pub invariant-loop-variable : goal.invariant-loop-variable
invariant-loop-variable l = l.out.items ≡ l.initial.out.items ++ flat_map (state_value_text l.types) (take (length l.yielded) (zip l.variables l.codes))
