use Rattle.std.proofs.Common.{◌∙◌, sym}
use Rattle.std.proofs.lemmas.Result.{err_from_is_err_and}
use Rattle.std.proofs.KnownBytes.{Appends-trans}
use Rattle.base_io.specs.Outside.{Begins}
use Rattle.cmd_work.specs.declared.status.Stop.TheVariants.{Read, NoMemory}
use Rattle.cmd_work.proofs.FileLemmas.{stopped_told, cut_behind, ok_of, answered_all, stopped_all}
use Rattle.cmd_work.proofs.walk.answer_lines.Goals as goal

pub returns-in_err-write_opening-clause-stopped : goal.returns-in_err-write_opening-clause-stopped
returns-in_err-write_opening-clause-stopped g c =
    let p = err_from_is_err_and c.from_residual.result c.from_residual.ensures.1 in
    rw (p.1, p.2)
    (stopped_told (g.S.Shelf.contents c.args.shelf.now) _ _ c.args.name.now (g.L.Session.opening c.args.session.now) (g.L.Session.answers c.args.session.now) _
    c.in_err-write_opening.ensures.stopped)

pub returns-then-is_err-clause-stopped : goal.returns-then-is_err-clause-stopped
returns-then-is_err-clause-stopped g c =
    stopped_told (g.S.Shelf.contents c.args.shelf.now) _ _ c.args.name.now (g.L.Session.opening c.args.session.now) (g.L.Session.answers c.args.session.now) Read
    (cut_behind _ _ (g.L.Session.opening c.args.session.now) (g.L.Session.answers c.args.session.now) Read c.in_ok-write_opening.ensures.some c.in_ok-write_opening.ensures.ok (λ h. cc))

pub returns-in_err-lines-clause-stopped : goal.returns-in_err-lines-clause-stopped
returns-in_err-lines-clause-stopped g c =
    let p = err_from_is_err_and c.from_residual-in_err-lines.result c.from_residual-in_err-lines.ensures.1 in
    rw (p.1, p.2)
    (stopped_told (g.S.Shelf.contents c.args.shelf.now) _ _ c.args.name.now (g.L.Session.opening c.args.session.now) (g.L.Session.answers c.args.session.now) NoMemory
    (cut_behind _ _ (g.L.Session.opening c.args.session.now) (g.L.Session.answers c.args.session.now) NoMemory c.in_ok-write_opening.ensures.some c.in_ok-write_opening.ensures.ok (λ h. cc)))

pub returns-clause-answered : goal.returns-clause-answered
returns-clause-answered g c =
    let begun : Begins (g.S.Shelf.contents c.args.shelf.now) c.args.name.now (g.S.Shelf.left c.begin.new.self) =
    ok_of c.begin.result _ (sym c.is_err.ensures.value ∙ c.if-is_err.false) c.begin.ensures.begun in
    answered_all c.walk.result c.in_ok-lines.lines (g.S.Shelf.contents c.args.shelf.now) c.args.name.now (g.S.Shelf.left c.begin.new.self) _ _ _
    (g.L.Session.opening c.args.session.now) (g.L.Session.answers c.args.session.now) c.in_ok-lines.ensures begun c.in_ok-write_opening.ensures.ok c.walk.ensures.answered

pub returns-clause-stopped : goal.returns-clause-stopped
returns-clause-stopped g c =
    let begun : Begins (g.S.Shelf.contents c.args.shelf.now) c.args.name.now (g.S.Shelf.left c.begin.new.self) =
    ok_of c.begin.result _ (sym c.is_err.ensures.value ∙ c.if-is_err.false) c.begin.ensures.begun in
    stopped_all c.walk.result c.in_ok-lines.lines (g.S.Shelf.contents c.args.shelf.now) c.args.name.now (g.S.Shelf.left c.begin.new.self) _ _ _
    (g.L.Session.opening c.args.session.now) (g.L.Session.answers c.args.session.now) c.in_ok-lines.ensures begun c.in_ok-write_opening.ensures.ok c.walk.ensures.stopped

pub returns-clause-opened : goal.returns-clause-opened
returns-clause-opened g c h =
    let w = c.walk.ensures.appended h in
    (w.0, Appends-trans _ _ _ (g.L.Session.opening c.args.session.now) w.0 c.in_ok-write_opening.ensures.ok w.1)
