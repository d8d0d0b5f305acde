use Rattle.std.proofs.Common.{◌∙◌, Err, ap, arith}
use Rattle.std.proofs.lemmas.Result.{err_from_is_err_and}
use Rattle.cmd_work.specs.Walk.{HasGone, HasEnded, room_of}
use Rattle.cmd_work.proofs.WalkLemmas.{under_moved, under_gone, under_ahead, under_ended, stopped_writing, stopped_ahead, ended_writing, answered}
use Rattle.cmd_work.proofs.walk.walk.Goals as goal

pub returns-in_err-flush_due-clause-stopped : goal.returns-in_err-flush_due-clause-stopped
returns-in_err-flush_due-clause-stopped g c =
    let p = err_from_is_err_and c.from_residual.result c.from_residual.ensures.1 in
    let u = c.lines.invariant.under in
    let ahead = under_ahead _ _ _ _ (g.L.Session.answers c.lines.session) c.lines.number (room_of c.lines.lines) _ _ u c.lines.invariant.some in
    rw (p.1, p.2, c.in_err-flush_due.ensures.only) (stopped_writing _ _ _ _ _ u.done c.lines.pending.items u.appended c.in_err-flush_due.ensures.err ahead)

pub returns-in_err-status-clause-stopped : goal.returns-in_err-status-clause-stopped
returns-in_err-status-clause-stopped g c =
    let p = err_from_is_err_and c.from_residual-in_err-status.result c.from_residual-in_err-status.ensures.1 in
    let u = under_moved _ _ _ _ _ _ _ _ _ c.lines.invariant.under c.in_ok-flush_due.ensures.ok in
    let ahead = under_ahead _ _ _ _ (g.L.Session.answers c.lines.session) c.lines.number (room_of c.lines.lines) _ _ u c.lines.invariant.some in
    rw (p.1, p.2) (stopped_ahead _ _ _ _ u.done c.flush_due.new.pending.items c.in_err-status.field-0.0 u.appended ahead (λ h. c.in_err-status.ensures.not_write (ap Err h)))

pub returns-in_err-flush-in-Some-clause-stopped : goal.returns-in_err-flush-in-Some-clause-stopped
returns-in_err-flush-in-Some-clause-stopped g c =
    let p = err_from_is_err_and c.from_residual-in_err-flush-in-Some.result c.from_residual-in_err-flush-in-Some.ensures.1 in
    let u = under_moved _ _ _ _ _ _ _ _ _ c.lines.invariant.under c.in_ok-flush_due.ensures.ok in
    let ended : HasEnded (g.L.Session.answers c.lines.session) c.lines.number c.lines.lines (g.S.Shelf.left c.lines.shelf) c.flush_due.new.pending.items c.turn.new.pending.items c.in-Some.status =
    rw c.in-Some.is at c.in_ok-status.ensures.exact in
    rw (p.1, p.2, c.in_err-flush-in-Some.ensures.only)
    (ended_writing _ _ _ _ _ u.done c.turn.new.pending.items c.in-Some.status u.appended c.in_err-flush-in-Some.ensures.err
    (under_ended _ _ _ _ _ (g.L.Session.answers c.lines.session) c.lines.number c.lines.lines _ _ c.in-Some.status u ended))

pub returns-in-Some-clause-answered : goal.returns-in-Some-clause-answered
returns-in-Some-clause-answered g c =
    let u = under_moved _ _ _ _ _ _ _ _ _ c.lines.invariant.under c.in_ok-flush_due.ensures.ok in
    let ended : HasEnded (g.L.Session.answers c.lines.session) c.lines.number c.lines.lines (g.S.Shelf.left c.lines.shelf) c.flush_due.new.pending.items c.turn.new.pending.items c.in-Some.status =
    rw c.in-Some.is at c.in_ok-status.ensures.exact in
    answered _ _ _ _ _ u.done c.turn.new.pending.items c.in-Some.status u.appended c.in_ok-flush-in-Some.ensures.ok
    (under_ended _ _ _ _ _ (g.L.Session.answers c.lines.session) c.lines.number c.lines.lines _ _ c.in-Some.status u ended)

pub lines-preserved : goal.lines-preserved
lines-preserved g c =
    let u = under_moved _ _ _ _ _ _ _ _ _ c.lines.invariant.under c.in_ok-flush_due.ensures.ok in
    let gone : HasGone (g.L.Session.answers c.lines.session) (g.L.Session.answers c.turn.new.session) c.lines.number c.lines.lines c.turn.new.lines (g.S.Shelf.left c.lines.shelf)
    (g.S.Shelf.left c.turn.new.shelf) c.flush_due.new.pending.items c.turn.new.pending.items =
    rw c.in-None.is at c.in_ok-status.ensures.exact in
    let i = c.lines.invariant in
    let given = gone.given in
    record {
      under = under_gone _ _ _ _ _ (g.L.Session.answers c.lines.session) (g.L.Session.answers c.turn.new.session) c.lines.number c.lines.lines c.turn.new.lines _ _ _ u gone;
      some = gone.some;
      stands = c.in_ok-status.ensures.stands c.in-None.is;
      live = gone.live;
      number = omega (arith, i.number, given);
      given = gone.within;
      limit = gone.limit ∙ i.limit;
      written = omega (arith, i.written, c.in_ok-flush_due.ensures.later);
      read = omega (arith, i.read, c.in_ok-status.ensures.later);
      steady_on = λ s. c.in_ok-status.ensures.steady_on (i.steady_on s);
    }

pub returns-in_err-status-clause-appended : goal.returns-in_err-status-clause-appended
returns-in_err-status-clause-appended g c h =
    let u = under_moved _ _ _ _ _ _ _ _ _ c.lines.invariant.under c.in_ok-flush_due.ensures.ok in
    (u.done, u.appended)
