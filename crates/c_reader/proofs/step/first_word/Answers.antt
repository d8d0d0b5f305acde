use Rattle.std.proofs.Common.{sym, ◌∙◌}
use Rattle.c_reader.proofs.Places.{tokens_next, next_cut, next_words, no_words}
use Rattle.c_reader.proofs.step.first_word.Goals as goal

pub returns-in-Some-clause-word : goal.returns-in-Some-clause-word
returns-in-Some-clause-word c =
    let start = c.token_start-start in
    sym start.ensures.same
    ∙ next_words c.args.text.now start.result _ _ (tokens_next c.args.text.now c.split_at.result.1.now start.result c.in-Some.len _ c.split_at.ensures.back c.in-Some.ensures.1)

pub returns-in-Some-clause-cut : goal.returns-in-Some-clause-cut
returns-in-Some-clause-cut c =
    let start = c.token_start-start in
    next_cut c.args.text.now c.split_at.result.1.now start.result c.in-Some.len _ start.ensures.cut c.split_at.ensures.back c.in-Some.ensures.0 c.in-Some.ensures.1

pub returns-in-None-clause-word : goal.returns-in-None-clause-word
returns-in-None-clause-word c =
    let start = c.token_start-start in
    sym start.ensures.same ∙ no_words c.args.text.now c.split_at.result.1.now start.result c.split_at.ensures.back c.in-None.ensures
