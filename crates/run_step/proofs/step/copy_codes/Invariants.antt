use Rattle.run_step.specs.Settled.{IsCopied}
use Rattle.run_step.proofs.step.copy_codes.Given as goal

abbrev pub invariant-loop-v : goal.invariant-loop-v
invariant-loop-v l = IsCopied l.codes l.v l.to.codes
