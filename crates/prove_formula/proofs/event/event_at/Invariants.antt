use Rattle.std.proofs.Common.{◌≡◌, take, map}
use Rattle.scr_spec.specs.Shown.{data_of}
use Rattle.prove_formula.specs.Events.{prim_formula}
use Rattle.prove_formula.proofs.event.event_at.Given as goal

abbrev pub invariant-loop-prim : goal.invariant-loop-prim
invariant-loop-prim l = l.members ≡ map (prim_formula (data_of l.spec)) (take l.prim-index l.prim-items)
