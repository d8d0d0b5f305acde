use Rattle.std.proofs.Common.{◌∙◌}
use Rattle.prove_asserts.proofs.InSetting.{own_over, members_over, test_decided}
use Rattle.prove_asserts.proofs.change.test_change.Goals as goal

pub decide_change-requires-clause-own : goal.decide_change-requires-clause-own
decide_change-requires-clause-own c =
    own_over c.args.setting.now c.requires.set_up c.args.a.now c.args.change.now c.requires.change c.as_slice.result.now (c.as_slice.ensures ∙ c.in_ok-own.ensures) c.requires.over

pub decide_change-requires-clause-members : goal.decide_change-requires-clause-members
decide_change-requires-clause-members c =
    members_over c.args.setting.now c.requires.set_up c.args.a.now c.args.change.now c.requires.change c.as_slice.result.now (c.as_slice.ensures ∙ c.in_ok-own.ensures) c.requires.over

pub returns : goal.returns
returns c =
    test_decided c.args.setting.now c.requires.set_up c.args.a.now c.args.change.now c.requires.change c.as_slice.result.now (c.as_slice.ensures ∙ c.in_ok-own.ensures) c.requires.over
    c.decide_change.result c.decide_change.ensures
