use Rattle.std.proofs.Common.{◌≡◌, ◌++◌, length, take}
use Rattle.std.specs.List.{flat_map, zip}
use Rattle.scr_spec.specs.Shown.{data_of}
use Rattle.cmd_checked.specs.Reports.{line_text}
use Rattle.cmd_checked.proofs.verdicts.push_lines.Given as goal

abbrev pub invariant-loop-table : goal.invariant-loop-table
invariant-loop-table l = l.out.items ≡ l.initial.out.items ++ flat_map (line_text (data_of l.spec)) (take (length l.yielded) (zip l.spec.tables l.verdicts))
