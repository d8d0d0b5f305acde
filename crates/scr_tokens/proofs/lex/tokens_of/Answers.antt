use Rattle.std.proofs.Common.{arith, ◌≡◌, true, false, [], ◌∷◌, length, take, drop, Some, None, sym, ap, ◌∙◌, append_assoc}
use Rattle.std.proofs.lemmas.List.{append-nil, nil_from_length}
use Rattle.base.specs.Bytes.{is_blank}
use Rattle.scr_tokens.specs.Piece.{IsLongest, NoPiece}
use Rattle.scr_tokens.specs.Tokens.{no_more, blank, piece}
use Rattle.scr_tokens.specs.Words.{word_of}
use Rattle.scr_tokens.proofs.Cutting.{tokens_at, after_blank, after_piece, no_word, no_piece}
use Rattle.scr_tokens.proofs.lex.tokens_of.Goals as goal

pub pieces-preserved-then-is_blank : goal.pieces-preserved-then-is_blank
pieces-preserved-then-is_blank c =
    let front : c.pieces.here.now ≡ c.in-Some.first.now ∷ c.in-Some.rest.now = c.in-Some.ensures.cases.0 in
    let first : is_blank c.in-Some.first.now ≡ true = sym c.if-is_blank.ensures in
    let longer : length c.pieces.here.now ≡ length (c.in-Some.first.now ∷ c.in-Some.rest.now) = ap length front in
    record {
      onward = λ more d. c.pieces.invariant.onward more (tokens_at front (blank first d));
      back = λ all d. let here = c.pieces.invariant.back all d in after_blank first (tokens_at (sym front) here.1);
      within = omega (arith, c.pieces.invariant.within);
    }

pub returns-then-len-eq0-clause-refused : goal.returns-then-len-eq0-clause-refused
returns-then-len-eq0-clause-refused c never all d =
    let front : c.pieces.here.now ≡ c.in-Some.first.now ∷ c.in-Some.rest.now = c.in-Some.ensures.cases.0 in
    let first : is_blank c.in-Some.first.now ≡ false = sym c.if-is_blank.ensures in
    let none : NoPiece c.pieces.here.now = c.piece_len-len.ensures.longest.none c.if-len-eq0.true in
    let here = c.pieces.invariant.back all d in
    no_piece (rw front at none) first (tokens_at (sym front) here.1)

pub returns-in-None-clause-refused : goal.returns-in-None-clause-refused
returns-in-None-clause-refused c never all d =
    let here = c.pieces.invariant.back all d in
    let longest : IsLongest c.pieces.here.now c.piece_len-len.result = c.piece_len-len.ensures.longest.found (omega (arith, c.if-len-eq0.false)) in
    let none : word_of (take c.piece_len-len.result c.pieces.here.now) ≡ None = (let w : c.in_ok-word.field-0 ≡ word_of c.split_at.result.0.now = c.in_ok-word.ensures in ap word_of (sym c.split_at.ensures.front) ∙ sym w ∙ c.in-None.is) in
    no_word longest none here.1

pub pieces-preserved : goal.pieces-preserved
pieces-preserved c =
    let longest : IsLongest c.pieces.here.now c.piece_len-len.result = c.piece_len-len.ensures.longest.found (omega (arith, c.if-len-eq0.false)) in
    let is : word_of (take c.piece_len-len.result c.pieces.here.now) ≡ Some c.in-Some-2.word = (let w : c.in_ok-word.field-0 ≡ word_of c.split_at.result.0.now = c.in_ok-word.ensures in ap word_of (sym c.split_at.ensures.front) ∙ sym w ∙ c.in-Some-2.is) in
    let after : c.split_at.result.1.now ≡ drop c.piece_len-len.result c.pieces.here.now = c.split_at.ensures.back in
    record {
      onward = λ more d. rw (c.in_ok-push-in-Some-2.ensures.ok, append_assoc) (c.pieces.invariant.onward _ (piece longest is (tokens_at (sym after) d)));
      back = λ all d. let here = c.pieces.invariant.back all d in let next = after_piece longest is here.1 in (next.0, tokens_at after next.1);
      within = omega (arith, c.pieces.invariant.within, c.split_at.ensures.back_len);
    }

pub returns-clause-found : goal.returns-clause-found
returns-clause-found c =
    let empty : c.pieces.here.now ≡ [] = nil_from_length c.pieces.here.now c.in_default.ensures.cases in
    rw (← append-nil c.pieces.tokens) (c.pieces.invariant.onward [] (tokens_at empty no_more))
