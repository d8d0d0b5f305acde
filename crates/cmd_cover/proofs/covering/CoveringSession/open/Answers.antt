use Rattle.std.proofs.Common.{sym, subst}
use Rattle.scr_spec.specs.Shown.{data_of}
use Rattle.run_step.specs.Runs.{IsConsistent}
use Rattle.run_script.proofs.Reached.{reached_consistent}
use Rattle.cmd_cover.proofs.Existence.{some_answer}
use Rattle.cmd_cover.proofs.covering.CoveringSession.open.Goals as goal

pub returns-clause-some_answer : goal.returns-clause-some_answer
returns-clause-some_answer c =
    let s = c.args.self.now in
    let k = s.simulator.checked.now in
    some_answer (data_of k.spec) k.order s.tally.counts s.tally.at.codes s.tally.notes (record { sound = k.spec.sound; ordered = k.ordered; right = k.right })
    (subst (IsConsistent (data_of k.spec)) (sym s.present) (reached_consistent (data_of k.spec) s.simulator.state.codes k.spec.sound s.simulator.reached))
