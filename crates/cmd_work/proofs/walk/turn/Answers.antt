use Rattle.cmd_work.proofs.WalkLemmas.{turned}
use Rattle.cmd_work.proofs.walk.turn.Goals as goal

pub returns-in_ok-line-in-Ok-Line-clause-exact : goal.returns-in_ok-line-in-Ok-Line-clause-exact
returns-in_ok-line-in-Ok-Line-clause-exact g c =
    turned (g.L.Session.answers c.args.session.now) (g.L.Session.answers c.line-in-Ok-Line.new.self) c.args.number c.args.lines.now c.fill.new.self (g.S.Shelf.left c.args.shelf.now)
    (g.S.Shelf.left c.fill.new.shelf) c.line.result.now c.args.pending.now.items c.line-in-Ok-Line.new.out.items c.in_ok-line-in-Ok-Line.field-0
    (c.in-Ok-Line.ensures.line c.in-Ok-Line.field-0-is) (rw c.in-Ok-Line.field-0-is at c.in-Ok-Line.ensures.exact) c.line.ensures c.in-Ok-Line.ensures.given
    c.in_ok-line-in-Ok-Line.ensures.exact
