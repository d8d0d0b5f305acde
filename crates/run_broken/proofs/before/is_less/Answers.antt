use Rattle.std.proofs.Common.{◌∷◌, [], length, length-append, sym, ◌∙◌, rules}
use Rattle.std.proofs.lemmas.Slice.Zip.{zip_turn, zip_end}
use Rattle.run_broken.proofs.Apart.{less_here, less_on, less_end}
use Rattle.run_broken.proofs.before.is_less.Goals as goal

pub returns-then-not-is_same : goal.returns-then-not-is_same
returns-then-not-is_same c =
    let turn = zip_turn c.args.a.now c.args.b.now c.loop-x.yielded _ c.loop-x.x-iterator c.next.new.self c.next.result (search rules) (search rules) c.loop-x.yielded_by (c.in-Some.x, c.in-Some.y) c.in-Some.is
    c.next.ensures.steps in
    c.is_lesser.ensures
    ∙ less_here c.args.a.now c.args.b.now (length c.loop-x.yielded) c.in-Some.x.now c.in-Some.y.now turn.0 turn.1 (turn.2 _) (turn.3 _) (sym c.is_same.ensures ∙ c.if-not-is_same.true) c.loop-x.invariant

pub loop-x-preserved : goal.loop-x-preserved
loop-x-preserved c =
    let turn = zip_turn c.args.a.now c.args.b.now c.loop-x.yielded _ c.loop-x.x-iterator c.next.new.self c.next.result (search rules) (search rules) c.loop-x.yielded_by (c.in-Some.x, c.in-Some.y) c.in-Some.is
    c.next.ensures.steps in
    rw (length-append c.loop-x.yielded ((c.in-Some.x, c.in-Some.y) ∷ []))
    (less_on c.args.a.now c.args.b.now (length c.loop-x.yielded) c.in-Some.x.now c.in-Some.y.now turn.0 turn.1 (turn.2 _) (turn.3 _) (sym c.is_same.ensures ∙ c.if-not-is_same.false) c.loop-x.invariant)

pub returns : goal.returns
returns c =
    less_end c.args.a.now c.args.b.now (length c.loop-x.yielded)
    (zip_end c.args.a.now c.args.b.now c.loop-x.yielded _ c.loop-x.x-iterator c.next.new.self c.next.result (search rules) (search rules) c.loop-x.yielded_by c.in-None.is c.next.ensures.steps)
    c.loop-x.invariant
