use Rattle.std.proofs.Common.{◌≡◌, ◌++◌, map, true}
use Rattle.std.specs.List.{range_with_len}
use Rattle.scr_spec.specs.Shown.{data_of}
use Rattle.prove_formula.specs.Tables.{hold_formula}
use Rattle.prove_formula.proofs.relation.push_holds.Given as goal

abbrev pub invariant-loop-column : goal.invariant-loop-column
invariant-loop-column l = l.out ≡ l.initial.out ++ map (hold_formula (data_of l.spec) l.table true l.row) (range_with_len 0 l.column)
