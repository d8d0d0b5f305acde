use Rattle.scr_tokens.proofs.Cutting.{one_lexing}
use Rattle.scr_tokens.proofs.law.one_lexing.Goals as goal

pub returns : goal.returns
returns c = one_lexing
