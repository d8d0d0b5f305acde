use Rattle.run_cover.proofs.Tallied.{one_cover}
use Rattle.run_cover.proofs.law.one_cover.Goals as goal

pub returns : goal.returns
returns c = one_cover
