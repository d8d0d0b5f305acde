use Rattle.std.proofs.Common.{◌≡◌, take}
use Rattle.std.specs.List.{flat_map}
use Rattle.scr_spec.specs.Shown.{data_of}
use Rattle.prove_formula.specs.Tables.{taken_formula, row_formulas}
use Rattle.prove_formula.proofs.relation.some_taken_at.Given as goal

abbrev pub invariant-loop-row : goal.invariant-loop-row
invariant-loop-row l = l.members ≡ flat_map (row_formulas (taken_formula (data_of l.spec) l.table l.new)) (take l.row-index l.row-items)
