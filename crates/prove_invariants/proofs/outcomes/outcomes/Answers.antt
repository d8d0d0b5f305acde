use Rattle.std.proofs.Common.{length, ap, subst, ◌∙◌, rules}
use Rattle.std.specs.List.{range_with_len}
use Rattle.std.proofs.lemmas.List.{take_all}
use Rattle.scr_spec.specs.Relations.{is_monitored}
use Rattle.prove_invariants.specs.declared.moves.Moved.{Moved}
use Rattle.prove_invariants.specs.Settings.{spec_in}
use Rattle.prove_invariants.specs.Outcomes.{AreOutcomes}
use Rattle.prove_invariants.proofs.Testing.{at_filtered}
use Rattle.prove_invariants.proofs.Marking.{moved_there, outcomes_next}
use Rattle.prove_invariants.proofs.outcomes.outcomes.Goals as goal

pub of_change-requires-clause-monitored : goal.of_change-requires-clause-monitored
of_change-requires-clause-monitored c =
    let spec = spec_in c.args.round.now.setting.now in
    at_filtered (is_monitored spec) (range_with_len 0 (length spec.variables)) c.args.round.now.setting.now.monitored.now c.requires.begun.set_up.monitored_are c.loop-x.x-index c.loop-x-test.true

pub next_outcomes-requires-clause-moved : goal.next_outcomes-requires-clause-moved
next_outcomes-requires-clause-moved c =
    let spec = spec_in c.args.round.now.setting.now in
    moved_there c.args.round.now _ c.in_ok-moved.moved
    (at_filtered (is_monitored spec) (range_with_len 0 (length spec.variables)) c.args.round.now.setting.now.monitored.now c.requires.begun.set_up.monitored_are c.loop-x.x-index c.loop-x-test.true)
    c.in_ok-moved.ensures

pub loop-x-preserved : goal.loop-x-preserved
loop-x-preserved c =
    outcomes_next c.args.round.now c.args.standings.now c.args.round.now.setting.now.monitored.now c.loop-x.x-index c.loop-x.outcomes _ c.in_ok-moved.moved.changed c.loop-x.invariant c.loop-x-test.true
    (ap (λ (m : Moved). m.changed) c.in_ok-moved.ensures)
    (search rules)

pub returns : goal.returns
returns c =
    subst (λ xs. AreOutcomes c.args.round.now xs c.args.standings.now c.loop-x.outcomes)
    (take_all c.loop-x.x-index c.args.round.now.setting.now.monitored.now c.loop-x-test.false ∙ c.requires.begun.set_up.monitored_are) c.loop-x.invariant
