use Rattle.std.proofs.Common.{List, ℤ, length, ap, subst, arith}
use Rattle.run_step.specs.Settled.{IsCopied}
use Rattle.run_step.proofs.Calls.{copied_all}
use Rattle.run_step.proofs.step.copy_codes.Goals as goal

pub returns : goal.returns
returns c =
    copied_all c.args.from.now.codes c.loop-v.to.codes c.loop-v.v (subst (λ (xs : List ℤ). IsCopied xs c.loop-v.v c.loop-v.to.codes) c.as_slice-codes.ensures c.loop-v.invariant)
    (omega (arith, c.loop-v-test.false, ap length c.as_slice-codes.ensures))
