use Rattle.scr_spec.proofs.Depth.{bounded_depth}
use Rattle.scr_spec.proofs.law.bounded_depth.Goals as goal

pub returns : goal.returns
returns c = bounded_depth
