use Rattle.std.proofs.Common.{◌≡◌, ◌++◌, take}
use Rattle.scr_spec.specs.Shown.{data_of}
use Rattle.cmd_invariants.specs.Texts.{classes_text}
use Rattle.cmd_invariants.proofs.text.push_classes.Given as goal

abbrev pub invariant-loop-derivation : goal.invariant-loop-derivation
invariant-loop-derivation l = l.out.items ≡ l.initial.out.items ++ classes_text (data_of l.spec) (take l.derivation-index l.list)
