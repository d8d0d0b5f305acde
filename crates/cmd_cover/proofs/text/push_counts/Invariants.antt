use Rattle.std.proofs.Common.{◌≡◌, ◌++◌, take}
use Rattle.std.specs.List.{flat_map}
use Rattle.scr_spec.specs.Shown.{data_of}
use Rattle.cmd_cover.specs.Text.{count_text}
use Rattle.cmd_cover.proofs.text.push_counts.Given as goal

abbrev pub invariant-loop-count : goal.invariant-loop-count
invariant-loop-count l = l.out.items ≡ l.initial.out.items ++ flat_map (count_text (data_of l.spec)) (take l.count-index l.counts)
