use Rattle.std.proofs.Common.{◌+◌, ◌-◌, ◌≤◌, length, take, arith}
use Rattle.std.proofs.lemmas.List.{length-take}
use Rattle.base_io.proofs.LineLemmas.{EndsAlike-more}
use Rattle.base_io.proofs.TakenLemmas.{TakesAtMost-then}
use Rattle.base_io.proofs.first_line.ends_within.Goals as goal

pub returns-in-Some-clause-taken : goal.returns-in-Some-clause-taken
returns-in-Some-clause-taken g c =
    TakesAtMost-then (c.loop-count.count - c.args.seen) (c.args.room + 1 - c.args.seen) (g.S.Shelf.left c.args.shelf.now) (g.S.Shelf.left c.loop-count.shelf)
    (g.S.Shelf.left c.read_piece.new.shelf) (take c.in_ok-n.n c.read_piece.new.piece) c.loop-count.invariant.taken c.in_ok-n.ensures.taken
    (omega (arith, c.in_ok-n.ensures.bound, length-take c.in_ok-n.n c.read_piece.new.piece))

pub loop-count-preserved : goal.loop-count-preserved
loop-count-preserved g c =
    let inside : c.in_ok-n.n ≤ length c.read_piece.new.piece = omega (arith, c.in_ok-n.ensures.bound) in
    record {
      from = omega arith;
      within = omega (arith, c.in_ok-n.ensures.bound);
      alike = EndsAlike-more _ (g.S.Shelf.left c.loop-count.shelf) _ c.args.seen c.loop-count.count c.in_ok-n.n c.read_piece.new.piece
          c.loop-count.invariant.alike c.in_ok-n.ensures.taken inside c.in_default.ensures.none;
      taken = TakesAtMost-then (c.loop-count.count - c.args.seen) _ (g.S.Shelf.left c.args.shelf.now) (g.S.Shelf.left c.loop-count.shelf)
          (g.S.Shelf.left c.read_piece.new.shelf) (take c.in_ok-n.n c.read_piece.new.piece) c.loop-count.invariant.taken c.in_ok-n.ensures.taken
          (omega (arith, length-take c.in_ok-n.n c.read_piece.new.piece));
      later = omega arith;
      same_contents = cc;
      steady_on = λ steady. c.in_ok-n.ensures.steady_on (c.loop-count.invariant.steady_on steady);
    }
