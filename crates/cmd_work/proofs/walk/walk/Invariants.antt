use Rattle.std.proofs.Common.{◌≡◌, ◌≤◌, ◌+◌, ◌-◌}
use Rattle.std.specs.Prelude.{IsTrue}
use Rattle.cmd_work.specs.Session.{IsAnswered}
use Rattle.cmd_work.specs.Walk.{IsUnder, rest_of, room_of}
use Rattle.cmd_work.proofs.walk.walk.Given as goal

abbrev pub invariant-lines : goal.invariant-lines
invariant-lines g l = record {
  under : IsUnder (g.K.Sink.written l.initial.out) (g.K.Sink.written l.out) l.pending.items (g.L.Session.answers l.initial.session 1 (room_of l.initial.lines))
      (g.L.Session.answers l.session l.number (room_of l.lines)) (rest_of l.initial.lines (g.S.Shelf.left l.initial.shelf)) (rest_of l.lines (g.S.Shelf.left l.shelf));
  some : IsAnswered (g.L.Session.answers l.session);
  stands : g.L.Session.stands l.session l.number;
  live : IsTrue l.lines.live;
  number : l.number ≤ l.lines.given + 1;
  given : l.lines.given ≤ l.lines.limit;
  limit : l.lines.limit ≡ l.initial.lines.limit;
  written : g.K.Sink.faults l.initial.out ≤ g.K.Sink.faults l.out;
  read : g.S.Shelf.faults l.initial.shelf ≤ g.S.Shelf.faults l.shelf;
  steady_on : g.S.Shelf.steady l.initial.shelf → g.S.Shelf.steady l.shelf;
}

abbrev pub decreases-lines : goal.decreases-lines
decreases-lines g l = l.lines.limit - l.lines.given
