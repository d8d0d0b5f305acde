use Rattle.std.proofs.Common.{◌≡◌, ◌++◌, length, take}
use Rattle.std.specs.List.{flat_map, zip}
use Rattle.scr_spec.specs.Shown.{data_of}
use Rattle.cmd_assert.specs.Texts.{verdict_text}
use Rattle.cmd_assert.proofs.text.push_verdicts.Given as goal

abbrev pub invariant-loop-assertion : goal.invariant-loop-assertion
invariant-loop-assertion l = l.out.items ≡ l.initial.out.items ++ flat_map (verdict_text (data_of l.spec)) (take (length l.yielded) (zip l.assertions l.verdicts))
