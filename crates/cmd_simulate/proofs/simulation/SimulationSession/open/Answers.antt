use Rattle.scr_spec.specs.Shown.{data_of}
use Rattle.run_script.proofs.Reached.{reached_consistent}
use Rattle.cmd_simulate.proofs.Existence.{some_answer}
use Rattle.cmd_simulate.proofs.simulation.SimulationSession.open.Goals as goal

pub returns-clause-some_answer : goal.returns-clause-some_answer
returns-clause-some_answer c =
    let s = c.args.self.now.simulator in
    some_answer (data_of s.checked.now.spec) s.checked.now.order s.state.codes c.args.self.now.count
    (record { sound = s.checked.now.spec.sound; ordered = s.checked.now.ordered; right = s.checked.now.right })
    (reached_consistent (data_of s.checked.now.spec) s.state.codes s.checked.now.spec.sound s.reached)
