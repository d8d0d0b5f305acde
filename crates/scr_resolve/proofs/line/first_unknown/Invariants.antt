use Rattle.std.proofs.Common.{◌≡◌, drop}
use Rattle.scr_scope.specs.First.{first_in}
use Rattle.scr_scope.specs.Meanings.{unknown}
use Rattle.scr_resolve.proofs.line.first_unknown.Given as goal

abbrev pub invariant-loop-name : goal.invariant-loop-name
invariant-loop-name l = first_in (unknown l.known) (drop l.name-index l.names) ≡ first_in (unknown l.known) l.names
