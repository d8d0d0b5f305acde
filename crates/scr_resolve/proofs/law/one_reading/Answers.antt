use Rattle.scr_resolve.proofs.Readings.{one_reading}
use Rattle.scr_resolve.proofs.law.one_reading.Goals as goal

pub returns : goal.returns
returns c = one_reading
