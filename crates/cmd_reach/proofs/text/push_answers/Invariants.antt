use Rattle.std.proofs.Common.{◌≡◌, ◌++◌, length, take}
use Rattle.std.specs.List.{flat_map, zip}
use Rattle.scr_spec.specs.Shown.{data_of}
use Rattle.cmd_reach.specs.Texts.{answer_text}
use Rattle.cmd_reach.proofs.text.push_answers.Given as goal

abbrev pub invariant-loop-assertion : goal.invariant-loop-assertion
invariant-loop-assertion l = l.out.items ≡ l.initial.out.items ++ flat_map (answer_text (data_of l.spec)) (take (length l.yielded) (zip l.assertions l.answers))
