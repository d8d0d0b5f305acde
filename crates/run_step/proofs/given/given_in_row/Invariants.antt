use Rattle.std.proofs.Common.{◌≡◌, ℕ, ◌<◌, false}
use Rattle.scr_spec.specs.Shown.{data_of}
use Rattle.scr_spec.specs.Cells.{holds_in}
use Rattle.run_step.proofs.given.given_in_row.Given as goal

abbrev pub invariant-loop-column : goal.invariant-loop-column
invariant-loop-column l = (k : ℕ) → k < l.column → holds_in (data_of l.spec) l.table l.row k l.old.codes l.new.codes ≡ false
