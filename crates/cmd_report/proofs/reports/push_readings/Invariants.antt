use Rattle.std.proofs.Common.{◌≡◌, ◌++◌, take}
use Rattle.std.specs.List.{flat_map}
use Rattle.scr_spec.specs.Shown.{data_of}
use Rattle.cmd_report.specs.Variables.{reading_text}
use Rattle.cmd_report.proofs.reports.push_readings.Given as goal

abbrev pub invariant-loop-reading : goal.invariant-loop-reading
invariant-loop-reading l = l.out.items ≡ l.initial.out.items ++ flat_map (reading_text (data_of l.spec)) (take l.reading-index l.readings)
