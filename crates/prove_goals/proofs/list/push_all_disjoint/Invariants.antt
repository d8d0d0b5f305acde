use Rattle.std.proofs.Common.{◌≡◌, ◌++◌, map}
use Rattle.std.specs.List.{flat_map, range_with_len}
use Rattle.prove_goals.specs.Goals.{disjoint_goal, columns_behind}
use Rattle.prove_goals.proofs.list.push_all_disjoint.Given as goal

abbrev pub invariant-loop-i : goal.invariant-loop-i
invariant-loop-i l = l.out ≡ l.initial.out ++ flat_map (λ i. flat_map (λ j. map (disjoint_goal l.row i j) l.changes) (columns_behind i l.count)) (range_with_len 0 l.i)
