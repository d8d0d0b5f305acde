use Rattle.std.proofs.Common.{◌≡◌, drop, take, []}
use Rattle.scr_resolve.specs.Tables.{first_bad}
use Rattle.scr_resolve.proofs.mode.first_bad.Given as goal

abbrev pub invariant-loop-place : goal.invariant-loop-place
invariant-loop-place l = first_bad l.known l.v (take l.place l.names) (drop l.place l.names) ≡ first_bad l.known l.v [] l.names
