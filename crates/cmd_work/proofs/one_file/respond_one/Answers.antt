use Rattle.std.proofs.Common.{Err, ap}
use Rattle.std.proofs.lemmas.Result.{err_from_is_err_and}
use Rattle.cmd_work.specs.declared.status.Stop.TheVariants.{NoMemory}
use Rattle.cmd_work.specs.Load.{IsLoaded}
use Rattle.cmd_work.proofs.EndsLemmas.{Stopped-early, Stopped-writing}
use Rattle.cmd_work.proofs.one_file.respond_one.Goals as goal

pub returns-in_err-file-clause-stopped : goal.returns-in_err-file-clause-stopped
returns-in_err-file-clause-stopped g c =
    let p = err_from_is_err_and c.from_residual.result c.from_residual.ensures.1 in
    rw (p.1, p.2) (Stopped-early (g.S.Shelf.contents c.args.shelf.now) (g.K.Sink.written c.args.out.now)
    (λ files. g.J.OneFile.answers c.args.job.now (files c.args.name.now)) c.in_err-file.field-0.0
    (λ files. c.most_bytes.ensures.some_answer (files c.args.name.now)) (λ h. c.in_err-file.ensures.not_write (ap Err h)))

pub returns-in_err-text-clause-stopped : goal.returns-in_err-text-clause-stopped
returns-in_err-text-clause-stopped g c =
    let p = err_from_is_err_and c.from_residual-in_err-text.result c.from_residual-in_err-text.ensures.1 in
    rw (p.1, p.2) (Stopped-early (g.S.Shelf.contents c.args.shelf.now) (g.K.Sink.written c.args.out.now)
    (λ files. g.J.OneFile.answers c.args.job.now (files c.args.name.now)) NoMemory
    (λ files. c.most_bytes.ensures.some_answer (files c.args.name.now)) (λ h. cc))

pub returns-in_err-put-clause-stopped : goal.returns-in_err-put-clause-stopped
returns-in_err-put-clause-stopped g c =
    let p = err_from_is_err_and c.from_residual-in_err-put.result c.from_residual-in_err-put.ensures.1 in
    rw (p.1, p.2, c.in_err-put.ensures.only) (Stopped-writing (g.S.Shelf.contents c.args.shelf.now) _ _
    (λ files. g.J.OneFile.answers c.args.job.now (files c.args.name.now)) c.as_slice.result.now c.in_ok-text.status
    (λ files. IsLoaded c.most_bytes.result (files c.args.name.now) c.in_ok-file.file) c.in_ok-file.ensures.loaded
    (rw (c.as_slice.ensures.value, c.most_bytes.ensures.exact) (λ files loaded. c.in_ok-text.ensures.exact (files c.args.name.now) loaded)) c.in_err-put.ensures.err)
