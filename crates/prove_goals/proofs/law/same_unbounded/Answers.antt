use Rattle.prove_goals.proofs.Unbounded.{same_unbounded}
use Rattle.prove_goals.proofs.law.same_unbounded.Goals as goal

pub returns : goal.returns
returns c = same_unbounded
