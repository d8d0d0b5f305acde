use Rattle.std.proofs.Common.{append_assoc}
use Rattle.std.proofs.lemmas.Result.{err_from_is_err_and}
use Rattle.scr_parse.proofs.Reading.{handed_on, no_words, some_words}
use Rattle.scr_parse.proofs.CellSteps.{last_side_at, side_bar_at, first_side, after_side, side_ends}
use Rattle.scr_parse.proofs.cell.read_sides.Goals as goal

pub returns-in_err-side-clause-refused : goal.returns-in_err-side-clause-refused
returns-in_err-side-clause-refused c never ls h =
    let first = first_side (c.sides.invariant.back ls h).1 in
    let p = err_from_is_err_and c.from_residual.result c.from_residual.ensures.1 in
    c.in_err-side.ensures.refused (handed_on p.1 p.2 never) first.0 first.1 first.2

pub returns-then-is_empty-clause-found : goal.returns-then-is_empty-clause-found
returns-then-is_empty-clause-found c =
    let got = c.in_ok-side in
    rw c.in_ok-push.ensures.ok (c.sides.invariant.onward _ (last_side_at got.ensures.found (no_words got.after.now c.if-is_empty.ensures)))

pub sides-preserved : goal.sides-preserved
sides-preserved c =
    let at = c.in-Some in let got = c.in_ok-side in
    record {
      onward = λ ls h. rw (c.in_ok-push.ensures.ok, append_assoc) (c.sides.invariant.onward _ (side_bar_at got.ensures.found at.ensures h));
      back = λ ls h. after_side got.ensures.found at.ensures (c.sides.invariant.back ls h).1;
    }

pub returns-in-None-clause-refused : goal.returns-in-None-clause-refused
returns-in-None-clause-refused c never ls h =
    let got = c.in_ok-side in
    side_ends got.ensures.found (some_words got.after.now c.if-is_empty.ensures) c.in-None.ensures (c.sides.invariant.back ls h).1
