use Rattle.std.proofs.Common.{◌<◌, ◌+◌, length, take, arith}
use Rattle.std.proofs.lemmas.List.{length-take}
use Rattle.base_io.proofs.LoadLemmas.{IsBeginning-Consumes}
use Rattle.base_io.proofs.TakenLemmas.{TakesAtMost-more}
use Rattle.base_io.proofs.whole.read_all.Goals as goal

pub returns-in_err-extend_from_slice-clause-taken : goal.returns-in_err-extend_from_slice-clause-taken
returns-in_err-extend_from_slice-clause-taken g c =
    TakesAtMost-more (c.args.limit + 1) (g.S.Shelf.left c.args.shelf.now) (g.S.Shelf.left c.loop-piece.shelf) (g.S.Shelf.left c.read_piece.new.shelf)
    c.loop-piece.all.items (take c.in_ok-n.n c.read_piece.new.piece) c.loop-piece.invariant.took c.in_ok-n.ensures.taken
    (omega (arith, c.in_ok-n.ensures.bound, length-take c.in_ok-n.n c.read_piece.new.piece, c.loop-piece.all.ok))

pub returns-clause-too_long : goal.returns-clause-too_long
returns-clause-too_long g c =
    let more : c.args.limit < length c.loop-piece.all.items = omega (arith, c.loop-piece.all.ok) in
    rw c.truncate.ensures.items (IsBeginning-Consumes c.args.limit _ _ _ more c.loop-piece.invariant.took)
