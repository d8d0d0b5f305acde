use Rattle.scr_slice.proofs.SliceLaws.{same_runs}
use Rattle.scr_slice.proofs.law.same_runs.Goals as goal

pub returns : goal.returns
returns c = same_runs
