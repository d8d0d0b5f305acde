use Rattle.std.proofs.Common.{take}
use Rattle.scr_spec.specs.Shown.{data_of}
use Rattle.cmd_invariants.specs.Derives.{HaveDerived}
use Rattle.cmd_invariants.proofs.classes.derive_each.Given as goal

abbrev pub invariant-loop-class : goal.invariant-loop-class
invariant-loop-class l = HaveDerived (data_of l.checked.spec) l.checked.order.list l.limit (take l.class-index l.classes) l.out
