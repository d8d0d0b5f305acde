use Rattle.std.proofs.Common.{arith, append_assoc}
use Rattle.std.proofs.lemmas.Result.{err_from_is_err_and}
use Rattle.scr_parse.specs.Events.{last_prim, prim_or}
use Rattle.scr_parse.proofs.Reading.{handed_on, fewer}
use Rattle.scr_parse.proofs.EventSteps.{prim_to, first_prim, after_prim}
use Rattle.scr_parse.proofs.event.read_event.Goals as goal

pub returns-in_err-prim-clause-refused : goal.returns-in_err-prim-clause-refused
returns-in_err-prim-clause-refused c never ps rest h =
    let first = first_prim (c.prims.invariant.back ps rest h).1 in
    let p = err_from_is_err_and c.from_residual-in_err-prim.result c.from_residual-in_err-prim.ensures.1 in
    c.in_err-prim.ensures.refused (handed_on p.1 p.2 never) first.0 first.1 first.2

pub prims-preserved : goal.prims-preserved
prims-preserved c =
    let at = c.in-Some in let got = c.in_ok-prim in
    record {
      onward = λ ps end h. rw (c.in_ok-push.ensures.ok, append_assoc) (c.prims.invariant.onward _ end (prim_or (prim_to got.ensures.found at.ensures) h));
      back = λ ps end h. after_prim got.ensures.found at.ensures (c.prims.invariant.back ps end h).1;
      no_longer = omega (arith, c.prims.invariant.no_longer, got.ensures.shorter, fewer got.after.now at.next.now at.ensures);
    }

pub returns-in-None-clause-found : goal.returns-in-None-clause-found
returns-in-None-clause-found c = rw c.in_ok-push.ensures.ok (c.prims.invariant.onward _ _ (last_prim c.in_ok-prim.ensures.found c.in-None.ensures))
