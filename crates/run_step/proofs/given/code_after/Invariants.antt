use Rattle.std.proofs.Common.{◌≡◌, ℕ, ◌<◌, false}
use Rattle.scr_spec.specs.Shown.{data_of}
use Rattle.scr_spec.specs.Cells.{holds_in}
use Rattle.run_step.proofs.given.code_after.Given as goal

abbrev pub invariant-loop-row : goal.invariant-loop-row
invariant-loop-row l = (k : ℕ) → k < l.row → (column : ℕ) → holds_in (data_of l.spec) l.table k column l.old.codes l.new.codes ≡ false
