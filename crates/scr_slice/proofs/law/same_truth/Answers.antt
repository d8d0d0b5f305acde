use Rattle.scr_slice.proofs.SliceLaws.{same_truth}
use Rattle.scr_slice.proofs.law.same_truth.Goals as goal

pub returns : goal.returns
returns c = same_truth
