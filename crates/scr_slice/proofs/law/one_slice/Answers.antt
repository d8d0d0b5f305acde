use Rattle.scr_slice.proofs.SliceLaws.{one_slice}
use Rattle.scr_slice.proofs.law.one_slice.Goals as goal

pub returns : goal.returns
returns c = one_slice
