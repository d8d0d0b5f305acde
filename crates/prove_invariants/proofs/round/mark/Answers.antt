use Rattle.std.proofs.Common.{◌∷◌, [], length, length-append, rules, sym, subst}
use Rattle.std.proofs.lemmas.Slice.Zip.{zip_turn, zip_end}
use Rattle.prove_candidates.specs.declared.candidate.Candidate.{Candidate}
use Rattle.prove_invariants.specs.Settings.{test_in}
use Rattle.prove_invariants.specs.Rounds.{StopsAt}
use Rattle.prove_invariants.proofs.Marking.{marking_start, marking_kept, marking_broken, marking_past, marking_fixed, marking_gained}
use Rattle.prove_invariants.proofs.round.mark.Goals as goal

pub loop-standing-init : goal.loop-standing-init
loop-standing-init c = marking_start c.args.round.now c.args.standings.now c.args.outcomes.now _ c.requires c.new-out.ensures

pub loop-standing-preserved-in-Kept : goal.loop-standing-preserved-in-Kept
loop-standing-preserved-in-Kept c =
    let turn = zip_turn c.args.standings.now c.args.outcomes.now c.loop-standing.yielded _ c.loop-standing.standing-iterator c.next.new.self c.next.result (search rules) (search rules) c.loop-standing.yielded_by
    (c.in-Some.standing, c.in-Some.outcome) c.in-Some.is c.next.ensures.steps in
    rw (length-append c.loop-standing.yielded ((c.in-Some.standing, c.in-Some.outcome) ∷ []))
    (marking_kept c.args.round.now c.args.standings.now c.args.outcomes.now (length c.loop-standing.yielded) c.loop-standing.out c.loop-standing.gained c.loop-standing.invariant
    c.in-Some.standing.now c.in-Some.outcome.now turn.0 (turn.2 _) turn.1 (turn.3 _) c.in-Kept.is _ _ c.in_ok-passed-in-Kept.ensures c.in_ok-push-in-Kept.ensures.ok)

pub loop-standing-preserved : goal.loop-standing-preserved
loop-standing-preserved c =
    let turn = zip_turn c.args.standings.now c.args.outcomes.now c.loop-standing.yielded _ c.loop-standing.standing-iterator c.next.new.self c.next.result (search rules) (search rules) c.loop-standing.yielded_by
    (c.in-Some.standing, c.in-Some.outcome) c.in-Some.is c.next.ensures.steps in
    rw (length-append c.loop-standing.yielded ((c.in-Some.standing, c.in-Some.outcome) ∷ []))
    (marking_broken c.args.round.now c.args.standings.now c.args.outcomes.now (length c.loop-standing.yielded) c.loop-standing.out c.loop-standing.gained c.loop-standing.invariant
    c.in-Some.standing.now c.in-Some.outcome.now turn.0 (turn.2 _) turn.1 (turn.3 _) c.in-Broken.is _ _ c.in_ok-copy-in-Broken.ensures c.in_ok-push-in-Broken.ensures.ok)

pub returns-in-Past : goal.returns-in-Past
returns-in-Past c =
    let turn = zip_turn c.args.standings.now c.args.outcomes.now c.loop-standing.yielded _ c.loop-standing.standing-iterator c.next.new.self c.next.result (search rules) (search rules) c.loop-standing.yielded_by
    (c.in-Some.standing, c.in-Some.outcome) c.in-Some.is c.next.ensures.steps in
    subst (λ (d : Candidate). StopsAt (test_in c.args.round.now.setting.now) c.args.round.now.number c.args.round.now.known.now c.args.standings.now d) (sym c.in_ok-copy-in-Past.ensures)
    (marking_past c.args.round.now c.args.standings.now c.args.outcomes.now (length c.loop-standing.yielded) c.loop-standing.out c.loop-standing.gained c.loop-standing.invariant
    c.in-Some.standing.now c.in-Some.outcome.now turn.0 (turn.2 _) turn.1 (turn.3 _) c.in-Past.is)

pub returns-then-gained : goal.returns-then-gained
returns-then-gained c =
    let end = zip_end c.args.standings.now c.args.outcomes.now c.loop-standing.yielded _ c.loop-standing.standing-iterator c.next.new.self c.next.result (search rules) (search rules) c.loop-standing.yielded_by c.in-None.is c.next.ensures.steps in
    marking_gained c.args.round.now c.args.standings.now c.args.outcomes.now (length c.loop-standing.yielded) c.loop-standing.out c.loop-standing.gained c.loop-standing.invariant end c.if-gained.true

pub returns : goal.returns
returns c =
    let end = zip_end c.args.standings.now c.args.outcomes.now c.loop-standing.yielded _ c.loop-standing.standing-iterator c.next.new.self c.next.result (search rules) (search rules) c.loop-standing.yielded_by c.in-None.is c.next.ensures.steps in
    marking_fixed c.args.round.now c.args.standings.now c.args.outcomes.now (length c.loop-standing.yielded) c.loop-standing.out c.loop-standing.gained c.loop-standing.invariant end c.if-gained.false
