use Rattle.std.proofs.Common.{◌≡◌, take}
use Rattle.std.specs.List.{filter, flat_map}
use Rattle.scr_spec.specs.Shown.{data_of}
use Rattle.scr_depend.specs.Graphs.{is_among}
use Rattle.prove_goals.specs.Pairs.{need_formulas}
use Rattle.prove_goals.proofs.pair.pairs_for.Given as goal

abbrev pub invariant-loop-w : goal.invariant-loop-w
invariant-loop-w l = l.formulas ≡ flat_map (need_formulas (data_of l.spec)) (filter (is_among l.need) (take l.w-index l.order))
