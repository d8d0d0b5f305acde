use Rattle.scr_roundtrip.proofs.Laws.{conds_come_back}
use Rattle.scr_roundtrip.proofs.law.conds_come_back.Goals as goal

pub returns : goal.returns
returns c = conds_come_back
