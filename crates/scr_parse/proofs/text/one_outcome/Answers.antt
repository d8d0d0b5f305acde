use Rattle.scr_parse.proofs.Outcome.{one_outcome}
use Rattle.scr_parse.proofs.text.one_outcome.Goals as goal

pub returns : goal.returns
returns c = one_outcome
