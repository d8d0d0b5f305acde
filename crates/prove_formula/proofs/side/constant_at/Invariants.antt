use Rattle.std.proofs.Common.{◌≡◌, ◌≤◌, pos, ◌+ℤ◌, ◌*ℤ◌, take, fold}
use Rattle.std.specs.Prelude.{unsigned_abs, sum_by}
use Rattle.scr_spec.specs.Shown.{data_of}
use Rattle.scr_spec.specs.Over.{item_bound}
use Rattle.prove_formula.specs.Sides.{fixed_value}
use Rattle.prove_formula.proofs.side.constant_at.Given as goal

abbrev pub invariant-loop-item : goal.invariant-loop-item
invariant-loop-item l = record {
  value : l.sum ≡ fold (λ sum item. sum +ℤ item.factor *ℤ fixed_value (data_of l.spec) item.operand) (pos 0) (take l.item-index l.item-items);
  bounded : unsigned_abs l.sum ≤ sum_by (item_bound (data_of l.spec)) (take l.item-index l.item-items);
}
