use Rattle.scr_resolve.proofs.Outcome as law
use Rattle.scr_resolve.proofs.lines.one_resolution.Goals as goal

pub returns : goal.returns
returns c = law.one_resolution
