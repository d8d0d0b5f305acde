use Rattle.std.proofs.Common.{◌≡◌, rules}
use Rattle.std.proofs.lemmas.Result.{err_from_is_err_and}
use Rattle.cmd_work.proofs.FileLemmas.{cut_early, opening_put}
use Rattle.cmd_work.proofs.walk.write_opening.Goals as goal

pub returns-in_err-open-clause-stopped : goal.returns-in_err-open-clause-stopped
returns-in_err-open-clause-stopped g c =
    let p = err_from_is_err_and c.from_residual.result c.from_residual.ensures.1 in
    rw (p.1, p.2)
    (cut_early (g.K.Sink.written c.args.out.now) (g.L.Session.opening c.args.session.now) (g.L.Session.answers c.args.session.now) c.open.ensures.some_answer)

pub returns-clause-stopped : goal.returns-clause-stopped
returns-clause-stopped g c =
    let same : c.as_slice.result.now ≡ g.L.Session.opening c.args.session.now = search rules in
    opening_put c.put.result (g.K.Sink.written c.args.out.now) (g.K.Sink.written c.put.new.out) c.as_slice.result.now (g.L.Session.opening c.args.session.now)
    (g.L.Session.answers c.args.session.now) c.put.ensures.err c.put.ensures.only same c.open.ensures.some_answer
