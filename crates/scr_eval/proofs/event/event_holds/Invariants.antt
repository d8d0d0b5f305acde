use Rattle.std.proofs.Common.{◌≡◌, false, take}
use Rattle.std.specs.List.{list_any}
use Rattle.scr_spec.specs.Shown.{data_of}
use Rattle.scr_spec.specs.Events.{prim_holds}
use Rattle.scr_eval.proofs.event.event_holds.Given as goal

abbrev pub invariant-loop-prim : goal.invariant-loop-prim
invariant-loop-prim l = list_any (prim_holds (data_of l.spec) l.old.codes l.new.codes) (take l.prim-index l.prim-items) ≡ false
