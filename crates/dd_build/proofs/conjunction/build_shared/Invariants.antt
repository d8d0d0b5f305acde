use Rattle.std.proofs.Common.{take}
use Rattle.dd_build.specs.Stored.{AreStored}
use Rattle.dd_build.proofs.Further.{Further}
use Rattle.dd_build.proofs.conjunction.build_shared.Given as goal

abbrev pub invariant-loop-member : goal.invariant-loop-member
invariant-loop-member l = Further l.fn.store l.store l.first l.rest l.member-index l.whole × AreStored l.store (take l.member-index l.rest) l.ids.items
