use Rattle.std.proofs.Common.{◌≡◌, pos}
use Rattle.test_diagrams.specs.Worked.{levels_to}
use Rattle.test_diagrams.proofs.large.same_atom_again.Given as goal

abbrev pub invariant-loop-time : goal.invariant-loop-time
invariant-loop-time l = l.store.domains ≡ levels_to 2 (pos 8191)
