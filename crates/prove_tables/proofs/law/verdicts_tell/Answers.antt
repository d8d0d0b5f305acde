use Rattle.prove_tables.proofs.Shown.{verdicts_tell}
use Rattle.prove_tables.proofs.law.verdicts_tell.Goals as goal

pub returns : goal.returns
returns c = verdicts_tell
