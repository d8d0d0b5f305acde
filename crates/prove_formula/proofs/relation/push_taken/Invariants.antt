use Rattle.std.proofs.Common.{◌≡◌, ◌++◌, map}
use Rattle.std.specs.List.{range_with_len}
use Rattle.scr_spec.specs.Shown.{data_of}
use Rattle.prove_formula.specs.Tables.{taken_formula}
use Rattle.prove_formula.proofs.relation.push_taken.Given as goal

abbrev pub invariant-loop-column : goal.invariant-loop-column
invariant-loop-column l = l.out ≡ l.initial.out ++ map (taken_formula (data_of l.spec) l.table l.new l.row) (range_with_len 0 l.column)
