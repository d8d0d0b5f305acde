use Rattle.std.proofs.Common.{◌≡◌, ◌≤◌, ◌+◌, ◌-◌, Some, []}
use Rattle.std.specs.Prelude.{IsTrue}
use Rattle.cmd_work.specs.Walk.{IsUnder, rest_of, room_of}
use Rattle.cmd_work.proofs.gather.gather.Given as goal

abbrev pub invariant-lines : goal.invariant-lines
invariant-lines g l = record {
  under : IsUnder (Some []) (Some []) l.text.items (g.L.Session.answers l.initial.session 1 (room_of l.initial.lines))
      (g.L.Session.answers l.session l.number (room_of l.lines)) (rest_of l.initial.lines (g.S.Shelf.left l.initial.shelf)) (rest_of l.lines (g.S.Shelf.left l.shelf));
  stands : g.L.Session.stands l.session l.number;
  live : IsTrue l.lines.live;
  number : l.number ≤ l.lines.given + 1;
  given : l.lines.given ≤ l.lines.limit;
  limit : l.lines.limit ≡ l.initial.lines.limit;
  read : g.S.Shelf.faults l.initial.shelf ≤ g.S.Shelf.faults l.shelf;
  steady_on : g.S.Shelf.steady l.initial.shelf → g.S.Shelf.steady l.shelf;
}

abbrev pub decreases-lines : goal.decreases-lines
decreases-lines g l = l.lines.limit - l.lines.given
