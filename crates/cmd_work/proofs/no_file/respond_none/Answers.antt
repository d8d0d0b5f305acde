use Rattle.std.proofs.lemmas.Result.{err_from_is_err_and}
use Rattle.cmd_work.specs.declared.status.Stop.TheVariants.{NoMemory}
use Rattle.cmd_work.proofs.EndsLemmas.{IsCut-early, IsCut-writing}
use Rattle.cmd_work.proofs.no_file.respond_none.Goals as goal

pub returns-in_err-text-clause-stopped : goal.returns-in_err-text-clause-stopped
returns-in_err-text-clause-stopped g c =
    let p = err_from_is_err_and c.from_residual.result c.from_residual.ensures.1 in
    rw (p.1, p.2) (IsCut-early (g.J.NoFile.answers c.args.job.now) (g.K.Sink.written c.args.out.now) NoMemory c.answer.ensures.some_answer (λ h. cc))

pub returns-in_err-put-clause-stopped : goal.returns-in_err-put-clause-stopped
returns-in_err-put-clause-stopped g c =
    let p = err_from_is_err_and c.from_residual-in_err-put.result c.from_residual-in_err-put.ensures.1 in
    rw (p.1, p.2, c.in_err-put.ensures.only) (IsCut-writing (g.J.NoFile.answers c.args.job.now) _ _ c.as_slice.result.now c.in_ok-text.status
    (rw c.as_slice.ensures.value c.in_ok-text.ensures.exact) c.in_err-put.ensures.err)
