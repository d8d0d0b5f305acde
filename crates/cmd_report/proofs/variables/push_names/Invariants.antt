use Rattle.std.proofs.Common.{◌≡◌, ◌++◌, take}
use Rattle.scr_spec.specs.Shown.{data_of}
use Rattle.cmd_report.specs.Variables.{names_text}
use Rattle.cmd_report.proofs.variables.push_names.Given as goal

abbrev pub invariant-loop-v : goal.invariant-loop-v
invariant-loop-v l = l.out.items ≡ l.initial.out.items ++ names_text (data_of l.spec) (take l.v-index l.vs)
