use Rattle.std.proofs.Common.{◌∙◌}
use Rattle.prove_invariants.proofs.InSetting.{front_over, members_over, test_kept, test_broken, test_past}
use Rattle.prove_invariants.proofs.change.test_change.Goals as goal

pub decide_change-requires-clause-front : goal.decide_change-requires-clause-front
decide_change-requires-clause-front c =
    front_over c.args.round.now c.requires.begun c.args.candidate.now c.args.moved.now c.requires.moved c.as_slice.result.now (c.as_slice.ensures ∙ c.in_ok-own.ensures) c.requires.over

pub decide_change-requires-clause-members : goal.decide_change-requires-clause-members
decide_change-requires-clause-members c =
    members_over c.args.round.now c.requires.begun c.args.candidate.now c.args.moved.now c.requires.moved c.as_slice.result.now (c.as_slice.ensures ∙ c.in_ok-own.ensures) c.requires.over

pub returns-in-Over : goal.returns-in-Over
returns-in-Over c =
    test_past c.args.round.now c.requires.begun c.args.candidate.now c.args.moved.now c.requires.moved c.as_slice.result.now (c.as_slice.ensures ∙ c.in_ok-own.ensures) c.requires.over
    c.in_ok-decide_change.field-0 c.in_ok-decide_change.ensures c.in-Over.is

pub returns-in-Satisfied : goal.returns-in-Satisfied
returns-in-Satisfied c =
    test_broken c.args.round.now c.requires.begun c.args.candidate.now c.args.moved.now c.requires.moved c.as_slice.result.now (c.as_slice.ensures ∙ c.in_ok-own.ensures) c.requires.over
    c.in_ok-decide_change.field-0 c.in_ok-decide_change.ensures c.in-Satisfied.field-0 c.in-Satisfied.is

pub returns : goal.returns
returns c =
    test_kept c.args.round.now c.requires.begun c.args.candidate.now c.args.moved.now c.requires.moved c.as_slice.result.now (c.as_slice.ensures ∙ c.in_ok-own.ensures) c.requires.over
    c.in_ok-decide_change.field-0 c.in_ok-decide_change.ensures c.in-Unsatisfiable.is
