use Rattle.cmd_slice.proofs.Files.{one_slicing}
use Rattle.cmd_slice.proofs.law.one_slicing.Goals as goal

pub returns : goal.returns
returns c = one_slicing
