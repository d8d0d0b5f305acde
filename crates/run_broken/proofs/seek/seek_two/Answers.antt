use Rattle.std.proofs.Common.{◌≡◌, ℕ, List, Some, ap, ap₂, subst, ◌∙◌}
use Rattle.scr_spec.specs.Shown.{data_of}
use Rattle.run_broken.specs.Dropped.{IsFirstOutside}
use Rattle.run_broken.specs.Joins.{whole_answer, joined}
use Rattle.run_broken.specs.Pieces.{IsTwoStates}
use Rattle.run_broken.proofs.Told.{if_ok}
use Rattle.run_broken.proofs.seek.seek_two.Goals as goal

pub returns : goal.returns
returns c =
    let spec = data_of c.args.checked.now.spec in
    let piece = c.args.piece.now in
    let x = c.in-Some.input in
    let own = c.in_ok-answer.answer in
    let still = c.in_ok-still-in-Some.still in
    let first : c.in_ok-answer-2.answer ≡ whole_answer piece.keep own = c.in_ok-answer-2.ensures ∙ ap (λ (k : List ℕ). whole_answer k own) c.as_slice.ensures in
    let second : c.in_ok-still-in-Some-2.still ≡ whole_answer piece.keep still = c.in_ok-still-in-Some-2.ensures ∙ ap (λ (k : List ℕ). whole_answer k still) c.as_slice-in-Some.ensures in
    if_ok (λ a. a ≡ joined x c.in_ok-answer-2.answer c.in_ok-still-in-Some-2.still) (IsTwoStates spec piece c.args.most) c.joined.result
    (λ a e. record {
      own = own;
      searched = c.in_ok-answer.ensures;
      outside = Some x;
      first = subst (IsFirstOutside spec piece.keep) c.in-Some.is (subst (λ (k : List ℕ). IsFirstOutside spec k c.in_ok-first_outside.field-0) c.as_slice-2.ensures c.in_ok-first_outside.ensures);
      joins = (still, c.in_ok-still-in-Some.ensures, e ∙ ap₂ (joined x) first second);
    }) c.joined.ensures
