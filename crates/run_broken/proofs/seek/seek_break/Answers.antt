use Rattle.std.proofs.Common.{Bool, sym, subst}
use Rattle.scr_spec.specs.Shown.{data_of}
use Rattle.run_broken.specs.Breaks.{IsBreak}
use Rattle.run_broken.specs.Pieces.{IsOneState, IsTwoStates}
use Rattle.run_broken.proofs.Told.{piece_over, one_told, two_told, if_ok}
use Rattle.run_broken.proofs.seek.seek_break.Goals as goal

pub seek_two-requires-clause-over : goal.seek_two-requires-clause-over
seek_two-requires-clause-over c = piece_over c.args.checked.now c.args.cond.now c.requires.over c.in_ok-piece.piece c.in_ok-piece.ensures c.args.most

pub returns-then-two : goal.returns-then-two
returns-then-two c =
    let spec = data_of c.args.checked.now.spec in
    if_ok (IsTwoStates spec c.in_ok-piece.piece c.args.most) (IsBreak spec c.args.two c.args.cond.now c.args.most) c.seek_two.result
    (λ a t. subst (λ (b : Bool). IsBreak spec b c.args.cond.now c.args.most a) (sym c.if-two.true)
    (two_told c.args.checked.now c.args.cond.now c.requires.over c.in_ok-piece.piece c.in_ok-piece.ensures c.args.most a t)) c.seek_two.ensures

pub seek_one-requires-clause-over : goal.seek_one-requires-clause-over
seek_one-requires-clause-over c = piece_over c.args.checked.now c.args.cond.now c.requires.over c.in_ok-piece.piece c.in_ok-piece.ensures c.args.most

pub returns : goal.returns
returns c =
    let spec = data_of c.args.checked.now.spec in
    if_ok (IsOneState c.in_ok-piece.piece c.args.most) (IsBreak spec c.args.two c.args.cond.now c.args.most) c.seek_one.result
    (λ a t. subst (λ (b : Bool). IsBreak spec b c.args.cond.now c.args.most a) (sym c.if-two.false)
    (one_told c.args.checked.now c.args.cond.now c.requires.over c.in_ok-piece.piece c.in_ok-piece.ensures c.args.most a t)) c.seek_one.ensures
