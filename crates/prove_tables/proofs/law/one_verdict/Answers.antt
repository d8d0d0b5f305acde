use Rattle.prove_tables.proofs.OneVerdict.{one_verdict}
use Rattle.prove_tables.proofs.law.one_verdict.Goals as goal

pub returns : goal.returns
returns c = one_verdict
