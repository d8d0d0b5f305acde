use Rattle.std.proofs.Common.{◌≡◌}
use Rattle.std.specs.List.{flat_map, range_with_len}
use Rattle.scr_spec.specs.Shown.{data_of}
use Rattle.prove_goals.specs.Goals.{row_goals}
use Rattle.prove_goals.proofs.list.table_goals.Given as goal

abbrev pub invariant-loop-row : goal.invariant-loop-row
invariant-loop-row l = l.out ≡ flat_map (row_goals (data_of l.spec) l.table) (range_with_len 0 l.row)
