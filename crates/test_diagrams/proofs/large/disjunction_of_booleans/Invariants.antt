use Rattle.std.proofs.Common.{◌≡◌, pos}
use Rattle.dd_store.specs.Held.{IsKnown}
use Rattle.test_diagrams.specs.Worked.{levels_to}
use Rattle.test_diagrams.proofs.large.disjunction_of_booleans.Given as goal

abbrev pub invariant-loop-level : goal.invariant-loop-level
invariant-loop-level l = (l.store.domains ≡ levels_to 40 (pos 1)) × IsKnown l.store l.any
