use Rattle.std.proofs.Common.{◌≡◌, ◌++◌, ◌∙◌, map, sym, ap, subst, rules}
use Rattle.scr_spec.specs.Shown.{data_of}
use Rattle.scr_spec.specs.Domains.{IsTyped}
use Rattle.scr_spec.specs.declared.state.State.{State}
use Rattle.scr_spec.specs.Meaning.{Codes}
use Rattle.scr_depend.specs.declared.checked.Checked.{Checked}
use Rattle.run_step.specs.Runs.{IsConsistent}
use Rattle.run_script.specs.Feeds.{Feeds, Refuses}
use Rattle.run_script.specs.Faults.{kind_of}
use Rattle.run_script.proofs.Reached.{reached_consistent}
use Rattle.base_script.specs.Faults.{script_fault}
use Rattle.cmd_work.specs.Session.{IsAnswered}
use Rattle.run_cover.specs.Counts.{raised}
use Rattle.cmd_cover.specs.Text.{tally_text}
use Rattle.cmd_cover.specs.Covers.{CoversTally}
use Rattle.cmd_cover.proofs.Existence.{some_answer}
use Rattle.cmd_cover.proofs.Same.{same_typed, same_raised}
use Rattle.cmd_cover.proofs.Steps.{taken_line, passed_line, faulty_line}
use Rattle.cmd_cover.proofs.covering.CoveringSession.line.Goals as goal

pub note-requires-clause-typed : goal.note-requires-clause-typed
note-requires-clause-typed c =
    let s = c.args.self.now in
    let n = c.feed_line.new.self in
    let k = n.checked.now in
    let typed : IsTyped (data_of k.spec) n.state.codes = (reached_consistent (data_of k.spec) n.state.codes k.spec.sound n.reached).typed in
    let here : IsTyped (data_of s.simulator.checked.now.spec) n.state.codes = subst (λ (q : Checked). IsTyped (data_of q.spec) n.state.codes) c.in-Ok-true.ensures.same typed in
    subst (λ (q : State). IsTyped (data_of s.tally.checked.now.spec) q.codes) (sym c.state.ensures) (same_typed s.tally.checked.now s.simulator.checked.now s.same n.state.codes here)

pub returns-in-Ok-true-clause-exact : goal.returns-in-Ok-true-clause-exact
returns-in-Ok-true-clause-exact c =
    let s = c.args.self.now in
    let n = c.feed_line.new.self in
    let t = c.note.new.self in
    let k = n.checked.now in
    let spec = data_of s.simulator.checked.now.spec in
    let fed : Feeds spec c.args.line.now s.tally.at.codes n.state.codes c.in-Ok-true.field-0 =
    subst (λ (at : Codes). Feeds spec c.args.line.now at n.state.codes c.in-Ok-true.field-0) (sym s.present) c.in-Ok-true.ensures.fed in
    let grown : t.counts ≡ map (raised spec s.tally.at.codes n.state.codes) s.tally.counts =
    same_raised s.tally.checked.now s.simulator.checked.now s.same s.tally.at.codes n.state.codes s.tally.counts t.counts
    (c.note.ensures.counts ∙ ap (λ (q : State). map (raised (data_of s.tally.checked.now.spec) s.tally.at.codes q.codes) s.tally.counts) c.state.ensures) in
    let present : t.at.codes ≡ n.state.codes = c.note.ensures.present ∙ ap (λ (q : State). q.codes) c.state.ensures in
    let some : IsAnswered (CoversTally (data_of k.spec) t.counts t.at.codes t.notes) =
    some_answer (data_of k.spec) k.order t.counts t.at.codes t.notes (record { sound = k.spec.sound; ordered = k.ordered; right = k.right })
    (subst (IsConsistent (data_of k.spec)) (sym present) (reached_consistent (data_of k.spec) n.state.codes k.spec.sound n.reached)) in
    taken_line spec (data_of k.spec) s.tally.counts t.counts s.tally.at.codes n.state.codes t.at.codes s.tally.notes t.notes c.args.number c.args.line.now c.args.out.now.items
    c.in-Ok-true.field-0 fed c.in-Ok-true.field-0-test (ap (λ (q : Checked). data_of q.spec) c.in-Ok-true.ensures.same) grown present c.note.ensures.notes some

pub returns-in-Ok-false-clause-exact : goal.returns-in-Ok-false-clause-exact
returns-in-Ok-false-clause-exact c =
    let s = c.args.self.now in
    let n = c.feed_line.new.self in
    let k = n.checked.now in
    let spec = data_of s.simulator.checked.now.spec in
    let fed : Feeds spec c.args.line.now s.tally.at.codes n.state.codes c.in-Ok-false.field-0 =
    subst (λ (at : Codes). Feeds spec c.args.line.now at n.state.codes c.in-Ok-false.field-0) (sym s.present) c.in-Ok-false.ensures.fed in
    let same = ap (λ (q : Checked). data_of q.spec) c.in-Ok-false.ensures.same in
    let held = s.simulator.checked.now in
    let at_first : IsAnswered (CoversTally spec s.tally.counts s.tally.at.codes s.tally.notes) =
    some_answer spec held.order s.tally.counts s.tally.at.codes s.tally.notes (record { sound = held.spec.sound; ordered = held.ordered; right = held.right })
    (subst (IsConsistent spec) (sym s.present) (reached_consistent spec s.simulator.state.codes held.spec.sound s.simulator.reached)) in
    let some : IsAnswered (CoversTally (data_of k.spec) s.tally.counts s.tally.at.codes s.tally.notes) =
    subst (λ d. IsAnswered (CoversTally d s.tally.counts s.tally.at.codes s.tally.notes)) (sym same) at_first in
    passed_line spec (data_of k.spec) s.tally.counts s.tally.at.codes n.state.codes s.tally.notes c.args.number c.args.line.now c.args.out.now.items c.in-Ok-false.field-0 fed
    c.in-Ok-false.field-0-test same some

pub returns-in_ok-push_script_fault-in-Err-clause-exact : goal.returns-in_ok-push_script_fault-in-Err-clause-exact
returns-in_ok-push_script_fault-in-Err-clause-exact c =
    let s = c.args.self.now in
    let n = c.feed_line.new.self in
    let spec = data_of s.simulator.checked.now.spec in
    let refused : Refuses spec c.args.line.now s.tally.at.codes n.state.codes c.in-Err.fault =
    subst (λ (at : Codes). Refuses spec c.args.line.now at n.state.codes c.in-Err.fault) (sym s.present) c.in-Err.ensures.fed in
    let told : c.tell.new.out.items ≡ c.args.out.now.items ++ tally_text spec s.tally.counts s.tally.notes =
    c.in_ok-tell-in-Err.ensures ∙ ap (λ (q : Checked). c.args.out.now.items ++ tally_text (data_of q.spec) s.tally.counts s.tally.notes) c.in-Err.ensures.same in
    let said : c.push_script_fault.new.out.items ≡ c.tell.new.out.items ++ script_fault c.args.number (kind_of c.in-Err.fault) = search rules in
    faulty_line spec s.tally.counts s.tally.at.codes n.state.codes s.tally.notes c.args.number c.args.line.now c.args.out.now.items c.tell.new.out.items c.push_script_fault.new.out.items
    c.in-Err.fault refused told said
