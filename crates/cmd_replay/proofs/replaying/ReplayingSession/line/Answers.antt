use Rattle.std.proofs.Common.{◌≡◌, ◌++◌, ap, rules}
use Rattle.scr_spec.specs.Shown.{data_of}
use Rattle.scr_depend.specs.declared.checked.Checked.{Checked}
use Rattle.cmd_work.specs.Session.{IsAnswered}
use Rattle.cmd_report.specs.Runs.{state_text}
use Rattle.base_script.specs.Faults.{script_fault}
use Rattle.run_back.specs.Faults.{kind_of}
use Rattle.run_back.specs.Kept.{kept}
use Rattle.run_back.specs.Replays.{TakesInput, TakesBack, Passes}
use Rattle.cmd_replay.specs.Replays.{ReplaysKept}
use Rattle.cmd_replay.proofs.Existence.{some_answer}
use Rattle.cmd_replay.proofs.Steps.{added_line, taken_line, passed_line, faulty_line}
use Rattle.cmd_replay.proofs.replaying.ReplayingSession.line.Goals as goal

pub returns-in-Ok-Blank-clause-exact : goal.returns-in-Ok-Blank-clause-exact
returns-in-Ok-Blank-clause-exact c =
    let h = c.args.self.now.history in
    let n = c.feed_line.new.self in
    let old = kept h.earlier.items h.state.codes h.number in
    let new = kept n.earlier.items n.state.codes n.number in
    let did : Passes (data_of h.checked.now.spec) c.args.line.now old new = rw c.in-Ok-Blank.field-0-is at c.in-Ok-Blank.ensures.fed in
    let some : IsAnswered (ReplaysKept (data_of n.checked.now.spec) new) =
    some_answer (data_of n.checked.now.spec) n.checked.now.order new (record { sound = n.checked.now.spec.sound; ordered = n.checked.now.ordered; right = n.checked.now.right }) n.of_run in
    passed_line (data_of h.checked.now.spec) (data_of n.checked.now.spec) old new c.args.number c.args.line.now c.args.out.now.items did
    (ap (λ (q : Checked). data_of q.spec) c.in-Ok-Blank.ensures.same) some

pub returns-in_ok-tell-in-Ok-Forward-clause-exact : goal.returns-in_ok-tell-in-Ok-Forward-clause-exact
returns-in_ok-tell-in-Ok-Forward-clause-exact c =
    let h = c.args.self.now.history in
    let n = c.feed_line.new.self in
    let old = kept h.earlier.items h.state.codes h.number in
    let new = kept n.earlier.items n.state.codes n.number in
    let did : TakesInput (data_of h.checked.now.spec) c.args.line.now old new = rw c.in-Ok-Forward.field-0-is at c.in-Ok-Forward.ensures.fed in
    let some : IsAnswered (ReplaysKept (data_of n.checked.now.spec) new) =
    some_answer (data_of n.checked.now.spec) n.checked.now.order new (record { sound = n.checked.now.spec.sound; ordered = n.checked.now.ordered; right = n.checked.now.right }) n.of_run in
    let said : c.tell.new.out.items ≡ c.args.out.now.items ++ state_text (data_of n.checked.now.spec) n.number n.state.codes = search rules in
    added_line (data_of h.checked.now.spec) (data_of n.checked.now.spec) old new c.args.number c.args.line.now c.args.out.now.items c.tell.new.out.items did
    (ap (λ (q : Checked). data_of q.spec) c.in-Ok-Forward.ensures.same) some said

pub returns-in_ok-tell-in-Ok-Back-clause-exact : goal.returns-in_ok-tell-in-Ok-Back-clause-exact
returns-in_ok-tell-in-Ok-Back-clause-exact c =
    let h = c.args.self.now.history in
    let n = c.feed_line.new.self in
    let old = kept h.earlier.items h.state.codes h.number in
    let new = kept n.earlier.items n.state.codes n.number in
    let did : TakesBack c.args.line.now old new = rw c.in-Ok-Back.field-0-is at c.in-Ok-Back.ensures.fed in
    let some : IsAnswered (ReplaysKept (data_of n.checked.now.spec) new) =
    some_answer (data_of n.checked.now.spec) n.checked.now.order new (record { sound = n.checked.now.spec.sound; ordered = n.checked.now.ordered; right = n.checked.now.right }) n.of_run in
    let said : c.tell-in-Ok-Back.new.out.items ≡ c.args.out.now.items ++ state_text (data_of n.checked.now.spec) n.number n.state.codes = search rules in
    taken_line (data_of h.checked.now.spec) (data_of n.checked.now.spec) old new c.args.number c.args.line.now c.args.out.now.items c.tell-in-Ok-Back.new.out.items did
    (ap (λ (q : Checked). data_of q.spec) c.in-Ok-Back.ensures.same) some said

pub returns-in_ok-push_script_fault-in-Err-clause-exact : goal.returns-in_ok-push_script_fault-in-Err-clause-exact
returns-in_ok-push_script_fault-in-Err-clause-exact c =
    let h = c.args.self.now.history in
    let old = kept h.earlier.items h.state.codes h.number in
    let said : c.push_script_fault.new.out.items ≡ c.args.out.now.items ++ script_fault c.args.number (kind_of c.in-Err.fault) = search rules in
    faulty_line (data_of h.checked.now.spec) old c.args.number c.args.line.now c.args.out.now.items c.push_script_fault.new.out.items c.in-Err.fault c.in-Err.ensures.fed.0 said
