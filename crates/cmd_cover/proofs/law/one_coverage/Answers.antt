use Rattle.cmd_cover.proofs.Files.{one_coverage}
use Rattle.cmd_cover.proofs.law.one_coverage.Goals as goal

pub returns : goal.returns
returns c = one_coverage
