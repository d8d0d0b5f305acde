use Rattle.std.proofs.Common.{[]}
use Rattle.std.proofs.lemmas.Result.{err_from_is_err_and}
use Rattle.cmd_work.specs.declared.status.Stop.TheVariants.{NoMemory}
use Rattle.cmd_work.specs.Session.{FileAnswers}
use Rattle.cmd_work.proofs.TwoFilesLemmas.{answered_as, stopped_as}
use Rattle.cmd_work.proofs.EndsLemmas.{Stopped-early}
use Rattle.cmd_work.proofs.WalkLemmas.{front_of}
use Rattle.cmd_runc.specs.Texts.{objects_text}
use Rattle.cmd_runc.specs.Runs.{RunsCalls, RunsFile}
use Rattle.cmd_runc.proofs.Files.{file_some, own_answers}
use Rattle.cmd_runc.proofs.command.RunCTwoFiles.go_on.Goals as goal

pub returns-in_err-calls-clause-stopped : goal.returns-in_err-calls-clause-stopped
returns-in_err-calls-clause-stopped g c =
    let p = err_from_is_err_and c.from_residual.result c.from_residual.ensures.1 in
    rw (p.1, p.2)
    (Stopped-early (g.S.Shelf.contents c.args.shelf.now) (g.K.Sink.written c.args.out.now) (λ files. RunsFile c.args.base.now (files c.args.name.now)) NoMemory
    (λ files. front_of (RunsFile c.args.base.now (files c.args.name.now)) [] (file_some c.args.base.now (files c.args.name.now))) (λ h. cc))

pub returns-clause-answered : goal.returns-clause-answered
returns-clause-answered g c =
    let s = c.in_ok-calls.calls in
    answered_as c.answer_lines.result (g.S.Shelf.contents c.args.shelf.now) (g.K.Sink.written c.args.out.now) (g.K.Sink.written c.answer_lines.new.out)
    (λ files. FileAnswers (objects_text s.unit.now s.count s.machine.objects) (RunsCalls s.machine.unit s.machine.objects s.count) (files c.args.name.now))
    (λ files. RunsFile c.args.base.now (files c.args.name.now))
    (λ files. own_answers c.args.base.now s.unit.now s.machine s.count c.in_ok-calls.ensures.unit c.in_ok-calls.ensures.machine c.in_ok-calls.ensures.first (files c.args.name.now))
    c.answer_lines.ensures.answered

pub returns-clause-stopped : goal.returns-clause-stopped
returns-clause-stopped g c =
    let s = c.in_ok-calls.calls in
    stopped_as c.answer_lines.result (g.S.Shelf.contents c.args.shelf.now) (g.K.Sink.written c.args.out.now) (g.K.Sink.written c.answer_lines.new.out)
    (λ files. FileAnswers (objects_text s.unit.now s.count s.machine.objects) (RunsCalls s.machine.unit s.machine.objects s.count) (files c.args.name.now))
    (λ files. RunsFile c.args.base.now (files c.args.name.now))
    (λ files. own_answers c.args.base.now s.unit.now s.machine s.count c.in_ok-calls.ensures.unit c.in_ok-calls.ensures.machine c.in_ok-calls.ensures.first (files c.args.name.now))
    c.answer_lines.ensures.stopped
