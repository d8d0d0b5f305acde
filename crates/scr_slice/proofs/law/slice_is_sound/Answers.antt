use Rattle.scr_slice.proofs.SliceLaws.{slice_is_sound}
use Rattle.scr_slice.proofs.law.slice_is_sound.Goals as goal

pub returns : goal.returns
returns c = slice_is_sound
