use Rattle.scr_tokens.proofs.Longest.{cuts}
use Rattle.scr_tokens.proofs.piece.piece_len.Goals as goal

pub returns-clause-longest : goal.returns-clause-longest
returns-clause-longest c = rw c.front_len.ensures.value (cuts c.args.bytes.now (rw (← c.front_len.ensures.value) c.front_len.ensures.within))
