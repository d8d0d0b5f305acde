use Rattle.scr_parse.proofs.AssertionsOnce.{one_outcome}
use Rattle.scr_parse.proofs.assertions.one_outcome_of_assertions.Goals as goal

pub returns : goal.returns
returns c = one_outcome
