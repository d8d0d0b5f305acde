use Rattle.std.proofs.Common.{◌∷◌, sym, ap, ◌∙◌, arith}
use Rattle.c_reader.specs.Word as w
use Rattle.c_reader.specs.Tokens.{token}
use Rattle.c_reader.proofs.Cutting.{some_bytes, nothing_left, nothing_behind, only_refused, behind_piece}
use Rattle.c_reader.proofs.lex.first_piece.Goals as goal
use Rattle.std.specs.Prelude.{length}

pub returns-then-is_empty : goal.returns-then-is_empty
returns-then-is_empty c = nothing_left c.args.bytes.now c.if-is_empty.ensures

pub returns-then-len-eq0 : goal.returns-then-len-eq0
returns-then-len-eq0 c =
    let bytes = c.args.bytes.now in (
      omega arith,
      only_refused bytes c.piece_len-len.result (some_bytes bytes c.if-is_empty.ensures) c.requires c.piece_len-len.ensures.value c.if-len-eq0.true
          ∙ ap (λ tokens. token w.Other (length bytes) ∷ tokens) (sym (nothing_behind bytes)),
    )

pub returns : goal.returns
returns c =
    (c.piece_len-len.ensures.within, behind_piece c.args.bytes.now c.split_at.result.0.now c.piece_len-len.result _ c.requires c.piece_len-len.ensures.value c.if-len-eq0.false c.split_at.ensures.front c.piece_of.ensures)
