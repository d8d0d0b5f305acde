use Rattle.std.proofs.Common.{◌≡◌, [], Err, ap}
use Rattle.std.proofs.lemmas.Result.{err_from_is_err_and}
use Rattle.scr_spec.specs.Shown.{data_of}
use Rattle.scr_depend.specs.declared.checked.Checked.{Checked}
use Rattle.cmd_work.specs.declared.status.Stop.TheVariants.{NoMemory}
use Rattle.cmd_work.specs.Session.{FileAnswers}
use Rattle.cmd_work.proofs.TwoFilesLemmas.{answered_text}
use Rattle.cmd_work.proofs.EndsLemmas.{Stopped-early, Stopped-writing}
use Rattle.cmd_work.proofs.WalkLemmas.{front_of}
use Rattle.cmd_cover.specs.Covers.{CoversTally, CoversFile}
use Rattle.cmd_cover.proofs.Files.{file_some, own_answers}
use Rattle.cmd_cover.proofs.cover.CoverTwoFiles.go_on.Goals as goal

pub returns-in_err-covering-clause-stopped : goal.returns-in_err-covering-clause-stopped
returns-in_err-covering-clause-stopped g c =
    let p = err_from_is_err_and c.from_residual.result c.from_residual.ensures.1 in
    let base = c.args.base.now in
    let spec = data_of base.spec in
    rw (p.1, p.2)
    (Stopped-early (g.S.Shelf.contents c.args.shelf.now) (g.K.Sink.written c.args.out.now) (λ files. CoversFile spec (files c.args.name.now)) NoMemory
    (λ files. front_of (CoversFile spec (files c.args.name.now)) []
    (file_some spec base.order (files c.args.name.now) (record { sound = base.spec.sound; ordered = base.ordered; right = base.right }))) (λ h. cc))

pub returns-in_err-text-clause-stopped : goal.returns-in_err-text-clause-stopped
returns-in_err-text-clause-stopped g c =
    let p = err_from_is_err_and c.from_residual-in_err-text.result c.from_residual-in_err-text.ensures.1 in
    let base = c.args.base.now in
    let spec = data_of base.spec in
    rw (p.1, p.2)
    (Stopped-early (g.S.Shelf.contents c.args.shelf.now) (g.K.Sink.written c.args.out.now) (λ files. CoversFile spec (files c.args.name.now)) c.in_err-text.field-0.0
    (λ files. front_of (CoversFile spec (files c.args.name.now)) []
    (file_some spec base.order (files c.args.name.now) (record { sound = base.spec.sound; ordered = base.ordered; right = base.right })))
    (λ h. c.in_err-text.ensures.not_write (ap Err h)))

pub returns-in_err-put-clause-stopped : goal.returns-in_err-put-clause-stopped
returns-in_err-put-clause-stopped g c =
    let p = err_from_is_err_and c.from_residual-in_err-put.result c.from_residual-in_err-put.ensures.1 in
    let base = c.args.base.now in
    let spec = data_of base.spec in
    let s = c.in_ok-covering.covering in
    let other = data_of s.simulator.checked.now.spec in
    let same : other ≡ spec = ap (λ (q : Checked). data_of q.spec) c.in_ok-covering.ensures.same in
    rw (p.1, p.2, c.in_err-put.ensures.only) (Stopped-writing (g.S.Shelf.contents c.args.shelf.now) _ _ (λ files. CoversFile spec (files c.args.name.now)) c.as_slice.result.now c.in_ok-text.status
    (λ files. FileAnswers [] (CoversTally other s.tally.counts s.tally.at.codes s.tally.notes) (files c.args.name.now) c.in_ok-text.text.items c.in_ok-text.status) c.in_ok-text.ensures.answered
    (λ files h. rw c.as_slice.ensures.value (own_answers spec other s.tally.counts s.simulator.state.codes s.tally.at.codes s.tally.notes same c.in_ok-covering.ensures.initial
    c.in_ok-covering.ensures.none (files c.args.name.now) c.in_ok-text.text.items c.in_ok-text.status h)) c.in_err-put.ensures.err)

pub returns-clause-answered : goal.returns-clause-answered
returns-clause-answered g c =
    let base = c.args.base.now in
    let spec = data_of base.spec in
    let s = c.in_ok-covering.covering in
    let other = data_of s.simulator.checked.now.spec in
    let same : other ≡ spec = ap (λ (q : Checked). data_of q.spec) c.in_ok-covering.ensures.same in
    answered_text (g.S.Shelf.contents c.args.shelf.now) _ _ c.as_slice.result.now c.in_ok-text.status (λ files. CoversFile spec (files c.args.name.now))
    (λ files. FileAnswers [] (CoversTally other s.tally.counts s.tally.at.codes s.tally.notes) (files c.args.name.now) c.in_ok-text.text.items c.in_ok-text.status) c.in_ok-text.ensures.answered
    (λ files h. rw c.as_slice.ensures.value (own_answers spec other s.tally.counts s.simulator.state.codes s.tally.at.codes s.tally.notes same c.in_ok-covering.ensures.initial
    c.in_ok-covering.ensures.none (files c.args.name.now) c.in_ok-text.text.items c.in_ok-text.status h)) c.in_ok-put.ensures.ok
