use Rattle.std.proofs.Common.{ap, ◌∙◌, arith}
use Rattle.c_reader.specs.Pieces.{space_len}
use Rattle.c_reader.proofs.Places.{bytes_behind, tokens_behind, same_words, space_cut}
use Rattle.c_reader.proofs.step.token_start.Goals as goal

pub returns-clause-same : goal.returns-clause-same
returns-clause-same c =
    let got = c.past_space.ensures in
    same_words c.args.text.now c.args.at _ (tokens_behind c.args.text.now c.split_at.result.1.now c.past_space.result.now c.args.at c.requires.within c.split_at.ensures.back got.end got.within got.tokens)

pub returns-clause-cut : goal.returns-clause-cut
returns-clause-cut c =
    let got = c.past_space.ensures in
    space_cut c.args.text.now c.args.at _ c.requires (omega arith) (tokens_behind c.args.text.now c.split_at.result.1.now c.past_space.result.now c.args.at c.requires.within c.split_at.ensures.back got.end got.within got.tokens)

pub returns-clause-none : goal.returns-clause-none
returns-clause-none c =
    let got = c.past_space.ensures in
    ap space_len (bytes_behind c.args.text.now c.split_at.result.1.now c.past_space.result.now c.args.at c.requires.within c.split_at.ensures.back got.end got.within) ∙ got.none
