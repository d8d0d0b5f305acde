use Rattle.std.proofs.Common.{◌∷◌, [], length, length-append, rules}
use Rattle.std.proofs.lemmas.Slice.Zip.{zip_turn, zip_end}
use Rattle.prove_invariants.proofs.Marking.{going_start, going_next, going_past, going_done}
use Rattle.prove_invariants.proofs.outcomes.next_outcomes.Goals as goal

pub loop-standing-init : goal.loop-standing-init
loop-standing-init c = going_start c.args.round.now c.args.moved.now.changed c.args.standings.now c.args.outcomes.now _ c.new-out.ensures

pub returns-then-eq : goal.returns-then-eq
returns-then-eq c =
    let turn = zip_turn c.args.standings.now c.args.outcomes.now c.loop-standing.yielded _ c.loop-standing.standing-iterator c.next.new.self c.next.result (search rules) (search rules) c.loop-standing.yielded_by
    (c.in-Some.standing, c.in-Some.outcome) c.in-Some.is c.next.ensures.steps in
    going_past c.args.round.now c.args.moved.now.changed c.args.standings.now c.args.outcomes.now (length c.loop-standing.yielded) c.loop-standing.out c.loop-standing.invariant
    c.in-Some.standing.now c.in-Some.outcome.now c.in_ok-next.next _ turn.0 (turn.2 _) turn.1 (turn.3 _) c.in_ok-next.ensures c.in_ok-push.ensures.ok (search rules)

pub loop-standing-preserved : goal.loop-standing-preserved
loop-standing-preserved c =
    let turn = zip_turn c.args.standings.now c.args.outcomes.now c.loop-standing.yielded _ c.loop-standing.standing-iterator c.next.new.self c.next.result (search rules) (search rules) c.loop-standing.yielded_by
    (c.in-Some.standing, c.in-Some.outcome) c.in-Some.is c.next.ensures.steps in
    rw (length-append c.loop-standing.yielded ((c.in-Some.standing, c.in-Some.outcome) ∷ []))
    (going_next c.args.round.now c.args.moved.now.changed c.args.standings.now c.args.outcomes.now (length c.loop-standing.yielded) c.loop-standing.out c.loop-standing.invariant
    c.in-Some.standing.now c.in-Some.outcome.now c.in_ok-next.next _ turn.0 (turn.2 _) turn.1 (turn.3 _) c.in_ok-next.ensures c.in_ok-push.ensures.ok (search rules))

pub returns : goal.returns
returns c =
    going_done c.args.round.now c.args.moved.now.changed c.args.standings.now c.args.outcomes.now (length c.loop-standing.yielded) c.loop-standing.out c.loop-standing.invariant
    (zip_end c.args.standings.now c.args.outcomes.now c.loop-standing.yielded _ c.loop-standing.standing-iterator c.next.new.self c.next.result (search rules) (search rules) c.loop-standing.yielded_by c.in-None.is c.next.ensures.steps)
