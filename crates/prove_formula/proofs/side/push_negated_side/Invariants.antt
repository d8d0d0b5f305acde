use Rattle.std.proofs.Common.{◌≡◌, ◌++◌, take, map}
use Rattle.std.specs.List.{filter_map}
use Rattle.prove_formula.specs.Sides.{term_of, negated}
use Rattle.prove_formula.proofs.side.push_negated_side.Given as goal

abbrev pub invariant-loop-item : goal.invariant-loop-item
invariant-loop-item l = l.out ≡ l.initial.out ++ map negated (filter_map (λ item. term_of l.reading item item.operand) (take l.item-index l.item-items))
