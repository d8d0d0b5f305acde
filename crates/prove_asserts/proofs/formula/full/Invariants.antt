use Rattle.std.proofs.Common.{◌≡◌, take}
use Rattle.std.specs.List.{flat_map}
use Rattle.scr_spec.specs.Shown.{data_of}
use Rattle.prove_goals.specs.Pairs.{need_formulas}
use Rattle.prove_asserts.proofs.formula.full.Given as goal

abbrev pub invariant-loop-w : goal.invariant-loop-w
invariant-loop-w l = l.out ≡ flat_map (need_formulas (data_of l.spec)) (take l.w-index l.order)
