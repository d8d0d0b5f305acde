use Rattle.std.proofs.Common.{◌≡◌, [], ap}
use Rattle.std.proofs.lemmas.Result.{err_from_is_err_and}
use Rattle.scr_spec.specs.Shown.{data_of}
use Rattle.scr_depend.specs.declared.checked.Checked.{Checked}
use Rattle.cmd_work.specs.declared.status.Stop.TheVariants.{NoMemory}
use Rattle.cmd_work.specs.Session.{FileAnswers}
use Rattle.cmd_work.proofs.TwoFilesLemmas.{answered_as, stopped_as}
use Rattle.cmd_work.proofs.EndsLemmas.{Stopped-early}
use Rattle.cmd_work.proofs.WalkLemmas.{front_of}
use Rattle.cmd_report.specs.Runs.{state_text}
use Rattle.run_back.specs.Kept.{kept}
use Rattle.cmd_replay.specs.Replays.{ReplaysKept, ReplaysFile}
use Rattle.cmd_replay.proofs.Files.{file_some, own_answers}
use Rattle.cmd_replay.proofs.replay.ReplayTwoFiles.go_on.Goals as goal

pub returns-in_err-replaying-clause-stopped : goal.returns-in_err-replaying-clause-stopped
returns-in_err-replaying-clause-stopped g c =
    let p = err_from_is_err_and c.from_residual.result c.from_residual.ensures.1 in
    let base = c.args.base.now in
    let spec = data_of base.spec in
    rw (p.1, p.2)
    (Stopped-early (g.S.Shelf.contents c.args.shelf.now) (g.K.Sink.written c.args.out.now) (λ files. ReplaysFile spec (files c.args.name.now)) NoMemory
    (λ files. front_of (ReplaysFile spec (files c.args.name.now)) []
    (file_some spec base.order (files c.args.name.now) (record { sound = base.spec.sound; ordered = base.ordered; right = base.right }))) (λ h. cc))

pub returns-clause-stopped : goal.returns-clause-stopped
returns-clause-stopped g c =
    let base = c.args.base.now in
    let spec = data_of base.spec in
    let h = c.in_ok-replaying.replaying.history in
    let k = kept h.earlier.items h.state.codes h.number in
    let other = data_of h.checked.now.spec in
    let same : other ≡ spec = ap (λ (q : Checked). data_of q.spec) c.in_ok-replaying.ensures.same in
    stopped_as c.answer_lines.result (g.S.Shelf.contents c.args.shelf.now) (g.K.Sink.written c.args.out.now) (g.K.Sink.written c.answer_lines.new.out)
    (λ files. FileAnswers (state_text other k.number k.at) (ReplaysKept other k) (files c.args.name.now))
    (λ files. ReplaysFile spec (files c.args.name.now))
    (λ files. own_answers spec other k same c.in_ok-replaying.ensures.initial c.in_ok-replaying.ensures.none (files c.args.name.now))
    c.answer_lines.ensures.stopped

pub returns-clause-answered : goal.returns-clause-answered
returns-clause-answered g c =
    let base = c.args.base.now in
    let spec = data_of base.spec in
    let h = c.in_ok-replaying.replaying.history in
    let k = kept h.earlier.items h.state.codes h.number in
    let other = data_of h.checked.now.spec in
    let same : other ≡ spec = ap (λ (q : Checked). data_of q.spec) c.in_ok-replaying.ensures.same in
    answered_as c.answer_lines.result (g.S.Shelf.contents c.args.shelf.now) (g.K.Sink.written c.args.out.now) (g.K.Sink.written c.answer_lines.new.out)
    (λ files. FileAnswers (state_text other k.number k.at) (ReplaysKept other k) (files c.args.name.now))
    (λ files. ReplaysFile spec (files c.args.name.now))
    (λ files. own_answers spec other k same c.in_ok-replaying.ensures.initial c.in_ok-replaying.ensures.none (files c.args.name.now))
    c.answer_lines.ensures.answered
