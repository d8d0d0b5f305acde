use Rattle.std.proofs.Common.{◌≡◌, drop}
use Rattle.scr_resolve.specs.Tables.{first_bare}
use Rattle.scr_resolve.proofs.shape.first_bare.Given as goal

abbrev pub invariant-loop-v : goal.invariant-loop-v
invariant-loop-v l = first_bare l.tables l.v (drop l.v l.variables) ≡ first_bare l.tables 0 l.variables
