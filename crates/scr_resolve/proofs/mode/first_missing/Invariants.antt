use Rattle.std.proofs.Common.{◌≡◌, drop}
use Rattle.scr_resolve.specs.Tables.{first_missing}
use Rattle.scr_resolve.proofs.mode.first_missing.Given as goal

abbrev pub invariant-loop-place : goal.invariant-loop-place
invariant-loop-place l = first_missing l.rows l.place (drop l.place l.names) ≡ first_missing l.rows 0 l.names
