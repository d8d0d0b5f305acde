use Rattle.prove_tables.proofs.SomeVerdict.{some_verdict}
use Rattle.prove_tables.proofs.law.some_verdict.Goals as goal

pub returns : goal.returns
returns c = some_verdict
