use Rattle.scr_spec.specs.Shown.{data_of}
use Rattle.run_step.specs.Settled.{IsBegun}
use Rattle.run_step.proofs.start.initial.Given as goal

abbrev pub invariant-loop-v : goal.invariant-loop-v
invariant-loop-v l = IsBegun (data_of l.checked.spec) l.checked.order.list l.v-index l.first.codes
