use Rattle.std.proofs.Common.{◌≡◌, take, true}
use Rattle.std.specs.List.{flat_map}
use Rattle.scr_spec.specs.Shown.{data_of}
use Rattle.prove_formula.specs.Tables.{hold_formula, row_formulas}
use Rattle.prove_formula.proofs.relation.some_holds_at.Given as goal

abbrev pub invariant-loop-row : goal.invariant-loop-row
invariant-loop-row l = l.members ≡ flat_map (row_formulas (hold_formula (data_of l.spec) l.table true)) (take l.row-index l.row-items)
