use Rattle.std.proofs.Common.{refl}
use Rattle.prove_candidates.proofs.Entries.{entries_none, entries_next, entries_all}
use Rattle.prove_candidates.proofs.entry.add_joined.Goals as goal

pub loop-prim-init : goal.loop-prim-init
loop-prim-init c = entries_none c.args.told.now c.args.told.now refl

pub loop-prim-preserved : goal.loop-prim-preserved
loop-prim-preserved c =
    entries_next c.args.told.now c.loop-prim.told c.add_entry.new.told c.args.prims.now c.loop-prim.prim-index c.prim-item.result c.loop-prim-test.true c.prim-item.is c.loop-prim.invariant c.in_ok-add_entry.ensures

pub returns : goal.returns
returns c = entries_all c.args.told.now c.loop-prim.told c.args.prims.now c.loop-prim.prim-index c.loop-prim-test.false c.loop-prim.invariant
