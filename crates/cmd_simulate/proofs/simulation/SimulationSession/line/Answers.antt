use Rattle.std.proofs.Common.{◌≡◌, ◌+◌, ◌++◌, ap, refl, rules}
use Rattle.scr_spec.specs.Shown.{data_of}
use Rattle.scr_depend.specs.declared.checked.Checked.{Checked}
use Rattle.cmd_work.specs.Session.{IsAnswered}
use Rattle.cmd_report.specs.Runs.{state_text}
use Rattle.base_script.specs.Faults.{script_fault}
use Rattle.run_script.proofs.Reached.{reached_consistent}
use Rattle.run_script.specs.Faults.{kind_of}
use Rattle.cmd_simulate.specs.Simulates.{Simulates}
use Rattle.cmd_simulate.proofs.Existence.{some_answer}
use Rattle.cmd_simulate.proofs.Steps.{taken_line, passed_line, faulty_line}
use Rattle.cmd_simulate.proofs.simulation.SimulationSession.line.Goals as goal

pub returns-in_ok-push_state-in-Ok-true-clause-exact : goal.returns-in_ok-push_state-in-Ok-true-clause-exact
returns-in_ok-push_state-in-Ok-true-clause-exact c =
    let k = c.feed_line.new.self.checked.now in
    let count = c.args.self.now.count + 1 in
    let some : IsAnswered (Simulates (data_of k.spec) c.feed_line.new.self.state.codes count) =
    some_answer (data_of k.spec) k.order c.feed_line.new.self.state.codes count (record { sound = k.spec.sound; ordered = k.ordered; right = k.right })
    (reached_consistent (data_of k.spec) c.feed_line.new.self.state.codes k.spec.sound c.feed_line.new.self.reached) in
    let said : c.push_state.new.out.items ≡ c.args.out.now.items ++ state_text (data_of k.spec) count c.feed_line.new.self.state.codes = search rules in
    taken_line (data_of c.args.self.now.simulator.checked.now.spec) (data_of k.spec) c.args.self.now.simulator.state.codes c.feed_line.new.self.state.codes c.args.self.now.count count
    c.args.number c.args.line.now c.args.out.now.items c.push_state.new.out.items c.in-Ok-true.field-0 c.in-Ok-true.ensures.fed c.in-Ok-true.field-0-test
    (ap (λ (q : Checked). data_of q.spec) c.in-Ok-true.ensures.same) refl some said

pub returns-in-Ok-false-clause-exact : goal.returns-in-Ok-false-clause-exact
returns-in-Ok-false-clause-exact c =
    let k = c.feed_line.new.self.checked.now in
    let some : IsAnswered (Simulates (data_of k.spec) c.feed_line.new.self.state.codes c.args.self.now.count) =
    some_answer (data_of k.spec) k.order c.feed_line.new.self.state.codes c.args.self.now.count (record { sound = k.spec.sound; ordered = k.ordered; right = k.right })
    (reached_consistent (data_of k.spec) c.feed_line.new.self.state.codes k.spec.sound c.feed_line.new.self.reached) in
    passed_line (data_of c.args.self.now.simulator.checked.now.spec) (data_of k.spec) c.args.self.now.simulator.state.codes c.feed_line.new.self.state.codes c.args.self.now.count
    c.args.number c.args.line.now c.args.out.now.items c.in-Ok-false.field-0 c.in-Ok-false.ensures.fed c.in-Ok-false.field-0-test
    (ap (λ (q : Checked). data_of q.spec) c.in-Ok-false.ensures.same) some

pub returns-in_ok-push_script_fault-in-Err-clause-exact : goal.returns-in_ok-push_script_fault-in-Err-clause-exact
returns-in_ok-push_script_fault-in-Err-clause-exact c =
    let said : c.push_script_fault.new.out.items ≡ c.args.out.now.items ++ script_fault c.args.number (kind_of c.in-Err.fault) = search rules in
    faulty_line (data_of c.args.self.now.simulator.checked.now.spec) c.args.self.now.simulator.state.codes c.feed_line.new.self.state.codes c.args.self.now.count c.args.number c.args.line.now
    c.args.out.now.items c.push_script_fault.new.out.items c.in-Err.fault c.in-Err.ensures.fed said
