use Rattle.std.proofs.Common.{◌≡◌, ◌++◌, take}
use Rattle.std.specs.List.{flat_map}
use Rattle.scr_spec.specs.Shown.{data_of}
use Rattle.cmd_reach.specs.Texts.{input_text}
use Rattle.cmd_reach.proofs.text.push_script.Given as goal

abbrev pub invariant-loop-input : goal.invariant-loop-input
invariant-loop-input l = l.out.items ≡ l.initial.out.items ++ flat_map (input_text (data_of l.spec)) (take l.input-index l.script)
