use Rattle.std.proofs.Common.{◌≡◌, [], ap}
use Rattle.std.proofs.lemmas.Result.{err_from_is_err_and}
use Rattle.scr_spec.specs.Shown.{data_of}
use Rattle.scr_depend.specs.declared.checked.Checked.{Checked}
use Rattle.cmd_work.specs.declared.status.Stop.TheVariants.{NoMemory}
use Rattle.cmd_work.specs.Session.{FileAnswers}
use Rattle.cmd_work.proofs.TwoFilesLemmas.{stopped_as}
use Rattle.cmd_work.proofs.EndsLemmas.{Stopped-early}
use Rattle.cmd_work.proofs.WalkLemmas.{front_of}
use Rattle.cmd_report.specs.Runs.{state_text}
use Rattle.cmd_simulate.specs.Simulates.{Simulates, SimulatesFile}
use Rattle.cmd_simulate.proofs.Files.{file_some, own_answers}
use Rattle.cmd_simulate.proofs.simulate.SimulateTwoFiles.go_on.Goals as goal

pub returns-in_err-simulation-clause-stopped : goal.returns-in_err-simulation-clause-stopped
returns-in_err-simulation-clause-stopped g c =
    let p = err_from_is_err_and c.from_residual.result c.from_residual.ensures.1 in
    let base = c.args.base.now in
    let spec = data_of base.spec in
    rw (p.1, p.2)
    (Stopped-early (g.S.Shelf.contents c.args.shelf.now) (g.K.Sink.written c.args.out.now) (λ files. SimulatesFile spec (files c.args.name.now)) NoMemory
    (λ files. front_of (SimulatesFile spec (files c.args.name.now)) []
    (file_some spec base.order (files c.args.name.now) (record { sound = base.spec.sound; ordered = base.ordered; right = base.right }))) (λ h. cc))

pub returns-clause-stopped : goal.returns-clause-stopped
returns-clause-stopped g c =
    let base = c.args.base.now in
    let spec = data_of base.spec in
    let s = c.in_ok-simulation.simulation in
    let other = data_of s.simulator.checked.now.spec in
    let same : other ≡ spec = ap (λ (q : Checked). data_of q.spec) c.in_ok-simulation.ensures.same in
    stopped_as c.answer_lines.result (g.S.Shelf.contents c.args.shelf.now) (g.K.Sink.written c.args.out.now) (g.K.Sink.written c.answer_lines.new.out)
    (λ files. FileAnswers (state_text other s.count s.simulator.state.codes) (Simulates other s.simulator.state.codes s.count) (files c.args.name.now))
    (λ files. SimulatesFile spec (files c.args.name.now))
    (λ files. own_answers spec other s.simulator.state.codes s.count same c.in_ok-simulation.ensures.first c.in_ok-simulation.ensures.initial (files c.args.name.now))
    c.answer_lines.ensures.stopped
