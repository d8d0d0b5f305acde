use Rattle.dd_build.specs.Stored.{AreStored}
use Rattle.dd_build.proofs.Further.{Further}
use Rattle.dd_build.proofs.conjunction.build_again.Given as goal

abbrev pub invariant-loop-id : goal.invariant-loop-id
invariant-loop-id g l = Further l.fn.store l.store l.first g.rest l.id-index l.whole × AreStored l.store g.rest l.ids
