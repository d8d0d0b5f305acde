use Rattle.scr_slice.proofs.SliceLaws.{slice_meets_checks}
use Rattle.scr_slice.proofs.law.slice_meets_checks.Goals as goal

pub returns : goal.returns
returns c = slice_meets_checks
