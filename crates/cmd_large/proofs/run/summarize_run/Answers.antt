use Rattle.std.proofs.Common.{◌≡◌, ◌++◌, ap, rules}
use Rattle.std.specs.Prelude.{codes}
use Rattle.scr_spec.specs.Shown.{data_of}
use Rattle.scr_depend.specs.declared.checked.Checked.{Checked}
use Rattle.base_script.specs.Faults.{script_fault}
use Rattle.cmd_report.specs.Runs.{state_text}
use Rattle.run_script.specs.Faults.{kind_of}
use Rattle.cmd_large.specs.Texts.{number_line}
use Rattle.cmd_large.proofs.Parts.{run_stops, run_ends}
use Rattle.cmd_large.proofs.run.summarize_run.Goals as goal

pub returns-in-Ok : goal.returns-in-Ok
returns-in-Ok c =
    let s = c.in_ok-simulator.simulator in
    let spec = data_of c.args.checked.now.spec in
    let last = c.feed_all.new.simulator.state.codes in
    let text : c.push_state.new.out.items ≡ number_line (codes "inputs") 3 ++ state_text spec 3 last = search rules in
    run_ends spec (data_of s.checked.now.spec) s.state.codes last c.push_state.new.out.items (ap (λ (q : Checked). data_of q.spec) c.in_ok-simulator.ensures.same)
    c.in_ok-simulator.ensures.initial c.in-Ok.ensures.fed text

pub returns : goal.returns
returns c =
    let s = c.in_ok-simulator.simulator in
    let f = c.in-Err.faulty in
    let text : c.push_script_fault.new.out.items ≡ script_fault f.number (kind_of f.fault) = search rules in
    run_stops (data_of c.args.checked.now.spec) (data_of s.checked.now.spec) s.state.codes f c.push_script_fault.new.out.items
    (ap (λ (q : Checked). data_of q.spec) c.in_ok-simulator.ensures.same) c.in_ok-simulator.ensures.initial c.in-Err.ensures.fed text
