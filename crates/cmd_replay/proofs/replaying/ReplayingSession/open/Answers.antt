use Rattle.scr_spec.specs.Shown.{data_of}
use Rattle.run_back.specs.Kept.{kept}
use Rattle.cmd_replay.proofs.Existence.{some_answer}
use Rattle.cmd_replay.proofs.replaying.ReplayingSession.open.Goals as goal

pub returns-clause-some_answer : goal.returns-clause-some_answer
returns-clause-some_answer c =
    let h = c.args.self.now.history in
    some_answer (data_of h.checked.now.spec) h.checked.now.order (kept h.earlier.items h.state.codes h.number)
    (record { sound = h.checked.now.spec.sound; ordered = h.checked.now.ordered; right = h.checked.now.right }) h.of_run
