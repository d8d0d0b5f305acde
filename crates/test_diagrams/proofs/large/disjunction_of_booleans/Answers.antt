use Rattle.std.proofs.Common.{sym, subst}
use Rattle.dd_build.specs.Atoms.{IsAtomOver}
use Rattle.test_diagrams.specs.Worked.{one_at}
use Rattle.test_diagrams.proofs.Booleans.{over_one}
use Rattle.test_diagrams.proofs.large.disjunction_of_booleans.Goals as goal

pub atom_on-requires : goal.atom_on-requires
atom_on-requires c = subst (λ ds. IsAtomOver ds (one_at c.loop-level.level)) (sym c.loop-level.invariant.0) (over_one 40 c.loop-level.level c.loop-level-test.true)
