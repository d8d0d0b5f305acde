use Rattle.cmd_invariants.proofs.Derived.{one_derivation}
use Rattle.cmd_invariants.proofs.law.one_derivation.Goals as goal

pub returns : goal.returns
returns c = one_derivation
