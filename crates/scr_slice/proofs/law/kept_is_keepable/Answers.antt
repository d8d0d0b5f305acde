use Rattle.scr_slice.proofs.SliceLaws.{kept_is_keepable}
use Rattle.scr_slice.proofs.law.kept_is_keepable.Goals as goal

pub returns : goal.returns
returns c = kept_is_keepable
