use Rattle.cmd_checked.proofs.Scripts.{checked_first, own_first}
use Rattle.cmd_cover.specs.Covers.{CoversFile}
use Rattle.cmd_cover.proofs.cover.CoverTwoFiles.first.Goals as goal

pub returns-clause-exact : goal.returns-clause-exact
returns-clause-exact c =
    rw c.into.ensures (checked_first CoversFile c.args.self.now.limit c.args.file _ c.in_ok-check_file.ensures.exact c.in_ok-check_file.ensures.ending)

pub returns-clause-own : goal.returns-clause-own
returns-clause-own c = rw c.into.ensures (own_first _ c.in_ok-check_file.ensures.ending)
