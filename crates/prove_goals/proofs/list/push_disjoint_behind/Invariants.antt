use Rattle.std.proofs.Common.{◌≡◌, ◌++◌, map}
use Rattle.std.specs.Prelude.{nat_lt}
use Rattle.std.specs.List.{filter, flat_map, range_with_len}
use Rattle.prove_goals.specs.Goals.{disjoint_goal}
use Rattle.prove_goals.proofs.list.push_disjoint_behind.Given as goal

abbrev pub invariant-loop-j : goal.invariant-loop-j
invariant-loop-j l = l.out ≡ l.initial.out ++ flat_map (λ j. map (disjoint_goal l.row l.i j) l.changes) (filter (nat_lt l.i) (range_with_len 0 l.j))
