use Rattle.std.proofs.Common.{arith, append_assoc}
use Rattle.std.proofs.lemmas.Result.{err_from_is_err_and}
use Rattle.scr_parse.specs.Sides.{no_more}
use Rattle.scr_parse.proofs.Reading.{handed_on}
use Rattle.scr_parse.proofs.SideSteps.{signed, side_of_signed, signed_of_side, joined, after_joint, first_item}
use Rattle.scr_parse.proofs.side.read_side.Goals as goal

pub items-init : goal.items-init
items-init c = let at = c.past_minus-minus in record {
  onward = λ items end h. rw (c.from_vec-items.ensures, c.in_ok-with_capacity.ensures.items) (side_of_signed at.result.0 at.ensures.sign h);
  back = λ side end h. signed_of_side at.result.0 at.ensures.sign h;
  no_longer = at.ensures.no_longer;
}

pub returns-in_err-item-clause-refused : goal.returns-in_err-item-clause-refused
returns-in_err-item-clause-refused c never l rest h =
    let first = first_item (c.items.invariant.back l rest h).1 in
    let p = err_from_is_err_and c.from_residual-in_err-item.result c.from_residual-in_err-item.ensures.1 in
    c.in_err-item.ensures.refused (handed_on p.1 p.2 never) first.0 first.1 first.2

pub items-preserved : goal.items-preserved
items-preserved c =
    let at = c.in-Some in let got = c.in_ok-item in
    record {
      onward = λ items end h. rw (c.in_ok-push.ensures.ok, append_assoc, c.signed.ensures) (c.items.invariant.onward _ end (joined at.next_minus got.ensures.found at.ensures.sign h));
      back = λ side end h. after_joint at.next_minus got.ensures.found at.ensures.sign (c.items.invariant.back side end h).1;
      no_longer = omega (arith, c.items.invariant.no_longer, got.ensures.shorter, at.ensures.shorter);
    }

pub returns-in-None-clause-found : goal.returns-in-None-clause-found
returns-in-None-clause-found c =
    rw (c.in_ok-push.ensures.ok, c.signed.ensures) (c.items.invariant.onward _ _ (signed c.in_ok-item.ensures.found (no_more c.in-None.ensures.sign.0 c.in-None.ensures.sign.1)))
