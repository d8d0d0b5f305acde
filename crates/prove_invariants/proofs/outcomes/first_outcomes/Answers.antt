use Rattle.prove_invariants.proofs.Marking.{beginning_start, beginning_next, beginning_done}
use Rattle.prove_invariants.proofs.outcomes.first_outcomes.Goals as goal

pub loop-standing-init : goal.loop-standing-init
loop-standing-init c = beginning_start c.args.round.now c.args.standings.now _ c.new-out.ensures

pub loop-standing-preserved : goal.loop-standing-preserved
loop-standing-preserved c =
    beginning_next c.args.round.now c.args.standings.now c.loop-standing.standing-index c.loop-standing.out c.loop-standing.invariant c.standing-item.result c.first_outcome.result _
    c.loop-standing-test.true c.standing-item.is c.first_outcome.ensures c.in_ok-push.ensures.ok

pub returns : goal.returns
returns c = beginning_done c.args.round.now c.args.standings.now c.loop-standing.standing-index c.loop-standing.out c.loop-standing.invariant c.loop-standing-test.false
