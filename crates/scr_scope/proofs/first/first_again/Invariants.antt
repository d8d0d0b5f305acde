use Rattle.std.proofs.Common.{◌≡◌, ◌++◌, take, drop}
use Rattle.scr_scope.specs.First.{first_again}
use Rattle.scr_scope.proofs.first.first_again.Given as goal

abbrev pub invariant-loop-place : goal.invariant-loop-place
invariant-loop-place l = first_again l.known (l.own ++ take l.place l.names) (drop l.place l.names) ≡ first_again l.known l.own l.names
