use Rattle.dd_build.proofs.Again.{stopped_builds}
use Rattle.dd_build.proofs.law.stopped_builds_go_on.Goals as goal

pub returns : goal.returns
returns c = stopped_builds
