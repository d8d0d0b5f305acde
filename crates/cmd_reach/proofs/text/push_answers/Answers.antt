use Rattle.std.proofs.Common.{◌∷◌, [], length, length-append, rules}
use Rattle.std.proofs.lemmas.Slice.Zip.{zip_turn, zip_end}
use Rattle.scr_spec.specs.Shown.{data_of}
use Rattle.cmd_reach.proofs.Lines.{answers_more, answers_end}
use Rattle.cmd_reach.proofs.text.push_answers.Goals as goal

pub loop-assertion-preserved : goal.loop-assertion-preserved
loop-assertion-preserved c =
    let spec = data_of c.args.spec.now in
    let turn = zip_turn c.args.assertions.now c.args.answers.now c.loop-assertion.yielded _ c.loop-assertion.assertion-iterator c.next.new.self c.next.result (search rules) (search rules)
    c.loop-assertion.yielded_by (c.in-Some.assertion, c.in-Some.answer) c.in-Some.is c.next.ensures.steps in
    rw (length-append c.loop-assertion.yielded ((c.in-Some.assertion, c.in-Some.answer) ∷ []))
    (answers_more spec c.args.assertions.now c.args.answers.now (length c.loop-assertion.yielded) c.in-Some.assertion.now c.in-Some.answer.now _ _ _ turn.0 turn.1 (turn.2 _) (turn.3 _)
    c.in_ok-push_answer.ensures c.loop-assertion.invariant)

pub returns : goal.returns
returns c =
    let spec = data_of c.args.spec.now in
    answers_end spec c.args.assertions.now c.args.answers.now (length c.loop-assertion.yielded) _ _
    (zip_end c.args.assertions.now c.args.answers.now c.loop-assertion.yielded _ c.loop-assertion.assertion-iterator c.next.new.self c.next.result (search rules) (search rules)
    c.loop-assertion.yielded_by c.in-None.is c.next.ensures.steps)
    c.loop-assertion.invariant
