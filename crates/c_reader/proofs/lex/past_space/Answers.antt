use Rattle.std.proofs.Common.{length, ◌-◌, ◌≡◌, sym, ap, ◌∙◌, arith}
use Rattle.std.proofs.lemmas.List.{length-drop}
use Rattle.c_reader.proofs.Cutting.{behind_space}
use Rattle.c_reader.proofs.Places.{place_behind}
use Rattle.c_reader.proofs.lex.past_space.Goals as goal

pub spaces-preserved : goal.spaces-preserved
spaces-preserved c =
    let here = c.spaces.here.now in let n = c.space_len-space.result in let behind = c.split_at.result.1.now in
    let left : length behind ≡ length here - n = ap length c.split_at.ensures.back ∙ length-drop n here in
    let some = c.if-space-eq0.false in
    record {
      tokens = sym (behind_space here behind n c.space_len-space.ensures.value (omega arith) c.split_at.ensures.back) ∙ c.spaces.invariant.tokens;
      end = place_behind c.args.bytes.now here behind n c.spaces.invariant.end c.split_at.ensures.back c.space_len-space.ensures.within c.spaces.invariant.within;
      within = omega (arith, left, c.spaces.invariant.within);
    }
