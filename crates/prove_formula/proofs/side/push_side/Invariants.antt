use Rattle.std.proofs.Common.{◌≡◌, ◌++◌, take}
use Rattle.std.specs.List.{filter_map}
use Rattle.prove_formula.specs.Sides.{term_of}
use Rattle.prove_formula.proofs.side.push_side.Given as goal

abbrev pub invariant-loop-item : goal.invariant-loop-item
invariant-loop-item l = l.out ≡ l.initial.out ++ filter_map (λ item. term_of l.reading item item.operand) (take l.item-index l.item-items)
