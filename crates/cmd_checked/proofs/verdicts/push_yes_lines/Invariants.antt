use Rattle.std.proofs.Common.{◌≡◌, ◌++◌, take}
use Rattle.std.specs.List.{flat_map}
use Rattle.scr_spec.specs.Shown.{data_of}
use Rattle.cmd_checked.proofs.Lines.{yes_line}
use Rattle.cmd_checked.proofs.verdicts.push_yes_lines.Given as goal

abbrev pub invariant-loop-table : goal.invariant-loop-table
invariant-loop-table l = l.out.items ≡ l.initial.out.items ++ flat_map (yes_line (data_of l.spec)) (take l.table-index l.spec.tables)
